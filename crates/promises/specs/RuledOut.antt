-- Wrong answers that the contracts rule out: each field says of one call, in one situation, that its contract with this answer is absurd. Another wrong
-- answer of each call is an edit of the code, in the crate's must-fail. Here: shows, costs, counts, verdicts, reasons. proofs/RuledOut.antt proves it.
use Rattle.std.specs.Prelude.{ℕ, ◌≡◌, true, false, [], ◌∷◌, ◌++◌, replicate, Ok, Err, Some}
use Rattle.show.specs.declared.Show.{Show}
use Rattle.show.specs.declared.refusal.Refusal.{Refusal}
use Rattle.show.specs.declared.refusal.Refusal.TheVariants.{LayoutLimits, SessionLimits, NoSet, Damaged}
use Rattle.show.specs.Limits.{Tells, DriveWithin, LayoutWithin, SessionWithin, CountsWithin, no_layout, no_session, no_show, buffer_most}
use Rattle.show.specs.Refusals.{told_of}
use Rattle.show.specs.Checks.{show_check}
use Rattle.cost.specs.Costs.{read_cost}
use Rattle.cost.specs.WorstTimes.{takes_of, worst_of}
use Rattle.count.specs.Answers.{Buffered, need_of}
use Rattle.verdict.specs.declared.Decision.{Decision}
use Rattle.trial.specs.declared.Trial.{Trial}
use Rattle.verdict.specs.Answers.{DecisionIs, set_of}
use Rattle.trial.specs.Answers.{TrialIs}
use Rattle.reason.specs.declared.Reason.TheVariants as reason
use Rattle.reason.specs.Answers.{ReasonIs, loaded_of}
use Rattle.promises.specs.Numbers.{box, X, Z, far, buffered, clip, slower, show_of, places}
use Rattle.promises.specs.RuledOutOfTexts.{OfShowfile, OfShowfileWrite, OfParse, OfText, OfReport, OfExplain, OfChikchiro}
use Rattle.promises.specs.RuledOutOfRuns.{OfRun, OfRunTest, OfPlayer, OfPlayback, OfScheduler, OfStanding, OfSpare}

-- p2's show, with a buffer a byte short
abbrev pub short : Show
short = show_of X (buffered 102400 ∷ [])

-- a show of two layouts, and both are zeros
abbrev pub unlaid : Show
unlaid = record { drive = box; layouts = replicate 8 no_layout; laid = 2; sessions = replicate 16 no_session; playing = 0 }

pub record OfShow : Type 0 where
  -- `Drive::within`: yes to 65,537 blocks on a cylinder
  pub cylinder_too_large : Tells true (DriveWithin (record { block = 512; cylinder = 65537 })) → ⊥
  -- `Layout::within`: yes to a block that takes no time
  pub no_block_time : Tells true (LayoutWithin (record { longest = 20000; track = 2000; time = 0; rotation = 5000 })) → ⊥
  -- `Session::within`: no to the largest buffer
  pub largest_buffer_refused : Tells false (SessionWithin 1 (buffered buffer_most)) → ⊥
  -- `Show::nothing`: a show with a layout
  pub nothing_with_a_layout : no_show.laid ≡ 1 → ⊥
  -- `Show::counts_within`: yes to no layout
  pub no_layouts : Tells true (CountsWithin 0 1) → ⊥
  -- `Show::check`: looks above the count, where the zeros are no layout; of two offenders tells the higher
  pub looks_above_the_count : show_check (show_of X (clip ∷ [])) ≡ Err (LayoutLimits 1) → ⊥
  pub higher_offender : show_check unlaid ≡ Err (LayoutLimits 1) → ⊥
  -- `Refusal::told`: a place where there is none; 18 for a damaged run
  pub place_of_eight : told_of NoSet ≡ record { number = 8; place = 1 } → ⊥
  pub damaged_as_eighteen : told_of Damaged ≡ record { number = 18; place = 0 } → ⊥

pub record OfCost : Type 0 where
  -- `Cost::of_read`: the longest seek at each cylinder edge
  pub long_seek_between_cylinders : (read_cost X).cross ≡ 20000 → ⊥
  -- `Cost::takes`: U(11) on cylinders of 10 blocks with one crossing; a time on cylinders of none; where both limits are broken, 6
  pub one_crossing_for_eleven : takes_of (read_cost X) 10 11 ≡ Ok 142000 → ⊥
  pub time_on_no_cylinder : (t : ℕ) → takes_of (read_cost X) 0 1 ≡ Ok t → ⊥
  pub six_before_five : takes_of (record { fixed = 5000001; each = 1; cross = 0 }) 0 1 ≡ Err (LayoutLimits 0) → ⊥
  -- `worst_time`: U(1) without the long seek and the rotations; a time for no such session; 8 for it
  pub fixed_part_forgotten : worst_of (show_of X (clip ∷ [])) 0 1 ≡ Ok 14000 → ⊥
  pub session_at_the_count : (t : ℕ) → worst_of (show_of X (clip ∷ [])) 1 1 ≡ Ok t → ⊥
  pub eight_for_nine : worst_of (show_of X (clip ∷ [])) 1 1 ≡ Err NoSet → ⊥

pub record OfCount : Type 0 where
  -- `need`: of the highest rate over the longest time, with R x t cut off at 64 bits; in blocks of 513 bytes; where both limits are broken, 7
  pub product_cut_off : need_of 100000000 512 18446744073709551615 ≡ Ok 36028797019 → ⊥
  pub block_of_odd_size : (m : ℕ) → need_of 512000 513 1 ≡ Ok m → ⊥
  pub seven_before_five : need_of 0 0 1 ≡ Err (SessionLimits 0) → ⊥
  -- `fits`: no to p2's buffer, and yes with a byte less
  pub enough_is_short : Tells false (Buffered 51200 (buffered 102401) 1) → ⊥
  pub a_byte_short_fits : Tells true (Buffered 51200 (buffered 102400) 1) → ⊥

pub record OfVerdict : Type 0 where
  -- `decide`: with a no, counts
  pub refused_with_counts : (s : Show) (d : Decision) → DecisionIs s d → (w : Refusal) → d.verdict ≡ Err w → set_of d.counts 0 ≡ 1 → ⊥
  -- p2: yes to a buffer that takes the count, but not one block more
  pub without_the_extra_block : (d : Decision) → DecisionIs short d → d.verdict ≡ Ok tt → ⊥
  -- p3: L without the last session
  pub without_the_last : (d : Decision) → DecisionIs (show_of X (replicate 3 clip)) d → d.round ≡ 104000 → ⊥
  -- p6: yes at an even hundred per cent
  pub yes_at_a_hundred : (d : Decision) → DecisionIs (show_of Z (replicate 10 clip)) d → d.verdict ≡ Ok tt → ⊥
  -- p7: a count one larger than needed
  pub one_larger : (d : Decision) → DecisionIs (show_of Z (replicate 9 clip ++ (slower ∷ []))) d → set_of d.counts 9 ≡ 3061 → ⊥
  -- `tried`: p3's counts fail; p4's and p5's hold where both sides are even
  pub fails_though_they_hold : (t : Trial) → TrialIs (show_of X (replicate 3 clip)) (places (replicate 3 2)) t → t.answer ≡ Ok false → ⊥
  pub holds_at_equality : (t : Trial) → TrialIs (show_of far (replicate 2 clip)) (places (replicate 2 1)) t → t.answer ≡ Ok true → ⊥
  pub nine_hold_at_equality : (t : Trial) → TrialIs (show_of Z (replicate 9 clip)) (places (replicate 9 27)) t → t.answer ≡ Ok true → ⊥

pub record OfReason : Type 0 where
  -- `why`, of p2 with a buffer a byte short: beyond; a size without the one block more; a size that is too small as well
  pub beyond_where_a_buffer_would_do : ReasonIs short (Ok (Some reason.Beyond)) → ⊥
  pub size_without_the_one : ReasonIs short (Ok (Some (reason.Buffer 0 51201))) → ⊥
  pub size_too_small : ReasonIs short (Ok (Some (reason.Buffer 0 102400))) → ⊥
  -- the second of two whose buffers are too small
  pub highest_session : ReasonIs (show_of X (replicate 2 (buffered 102400))) (Ok (Some (reason.Buffer 1 102401))) → ⊥
  -- 8 for a show outside the limits
  pub refused_as_eight : (s : Show) → ReasonIs s (Err NoSet) → ⊥
  -- `load`: without the one-track seek; p6, an even hundred, as 99.9; p7, 99.9, as a hundred
  pub without_crossings : loaded_of (show_of X (clip ∷ [])) ≡ Ok 100 → ⊥
  pub hundred_as_less : loaded_of (show_of Z (replicate 10 clip)) ≡ Ok 999 → ⊥
  pub rounded_up : loaded_of (show_of Z (replicate 9 clip ++ (slower ∷ []))) ≡ Ok 1000 → ⊥

pub record RuledOut : Type 0 where
  pub show : OfShow
  pub cost : OfCost
  pub count : OfCount
  pub verdict : OfVerdict
  pub reason : OfReason
  pub run : OfRun
  pub run_test : OfRunTest
  pub player : OfPlayer
  pub playback : OfPlayback
  pub scheduler : OfScheduler
  pub standing : OfStanding
  pub spare : OfSpare
  pub showfile : OfShowfile
  pub showfile_write : OfShowfileWrite
  pub parse : OfParse
  pub text : OfText
  pub report : OfReport
  pub explain : OfExplain
  pub chikchiro : OfChikchiro
