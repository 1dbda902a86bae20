-- What is said on the telephone: the worked texts are computed. Assumes nothing.
use Rattle.std.specs.Prelude.{Ok, Some, None}
use Prim.Native.Nat.{ℕ, ◌≤◌}
use mathlib.Core.Path.{◌≡◌, refl, sym}
use mathlib.Core.List.{List, [], ◌∷◌}
use mathlib.Core.Logic.{◌⊎◌, inl, inr}
use native.Mathlib.Omega.{arith}
use native.Mathlib.Nat.{le_refl}
use native.Mathlib.Decide.{dec_lt}
use lib.ListN.{length, replicate}
use Rattle.show.specs.declared.Show.{Show}
use Rattle.show.specs.declared.refusal.Refusal.{Refusal}
use Rattle.show.specs.Refusals.{number_of}
use Rattle.show.specs.Limits.{ShowWithin}
use Rattle.show.specs.Decisions.{counts?, drive?, layout?, session?}
use Rattle.show.specs.Checks.{show_check, first_below}
use Rattle.show.specs.Lists.{listed, padded}
use Rattle.show.proofs.Shows.{check_within}
use Rattle.cost.specs.Bound.{worst_time, edges, ceil}
use Rattle.cost.specs.Costs.{cost_of}
use Rattle.showfile.specs.File.{file_of, zeroed}
use Rattle.showfile.specs.Checks.{note_most}
use Rattle.showfile.specs.declared.Reading.{Reading}
use Rattle.showfile.specs.Answers.{reading, read_of}
use Rattle.showfile.proofs.Readable.{read_within}
use Rattle.showfile_copy.proofs.Trip.{file_read}
use Rattle.theory.specs.Sum.{sum_to}
use Rattle.theory.specs.Reasons.{tenths}
use Rattle.theory.specs.Rounds.{need, asked, turns}
use Rattle.theory.specs.Shows.{load_of}
use Rattle.theory.proofs.Overload.{overloaded_exactly}
use Rattle.theory.proofs.Shows.{show_sound}
use Rattle.verdict.specs.Answers.{accepted_with, set_of}
use Rattle.verdict.proofs.Decisions.{accepted_exactly}
use Rattle.text.specs.Decimal.{digits, decimal}
use Rattle.reason.specs.declared.Reason.TheVariants as reason
use Rattle.reason.specs.Answers.{Reasoned, ReasonIs, none, overload, buffer, loaded_of}
use Rattle.reason.specs.Steps.{widest_of}
use Rattle.reason.proofs.Reasons.{wide_counts}
use Rattle.reason.proofs.Unused.{alike_reason}
use Rattle.explain.specs.Text.{reason_text, refusal_text}
use Rattle.explain.specs.Answers.{SaidIs, because, unread}
use Rattle.explain.proofs.Texts.{told_reason}
use Rattle.explain.proofs.Sizes.{said_most_holds}
use Rattle.promises.specs.Numbers.{X, Z, buffered, clip, show_of}
use Rattle.promises.specs.Files.{Shaped}
use Rattle.promises.specs.Refusals.{OneOf}
use Rattle.promises.specs.Reasons.{ForEight}
use Rattle.promises.specs.Sayings.{Sayings}
use Rattle.promises.proofs.Only.{only}
use Rattle.promises.proofs.Reasons.{reasons}
use Rattle.promises.proofs.Table.{table, settles, all, both}
use Rattle.promises.proofs.Trips.{trips}

-- A file that was written of a show is told by the reason for the show.
module _ (x : Show) (note : List ℕ) (shaped : Shaped x) (w : ShowWithin x) (h : length note ≤ note_most) (r : Reasoned) (is : ReasonIs x r) where
  -- what is read of it
  abbrev got : Reading
  got = reading (Ok tt) (zeroed x) (length note)

  as_read : got ≡ read_of (file_of x note)
  as_read = sym (file_read x note shaped.layouts shaped.sessions w h)

  said : loaded_of (zeroed x) ≡ Ok (tenths (load_of (zeroed x))) → SaidIs (file_of x note) (reason_text r (tenths (load_of (zeroed x))))
  said e =
      told_reason (file_of x note) got as_read refl (loaded_of (zeroed x)) refl (tenths (load_of (zeroed x))) r e
      (alike_reason x (zeroed x) (trips.read_again x note shaped w h).alike r is)

-- p3 is accepted ..
abbrev three : Show
three = show_of X (replicate 3 clip)

three_none : ReasonIs three (Ok None)
unfolding show_check first_below counts? drive? layout? session? dec_lt cost_of worst_time edges ceil sum_to listed padded
three_none = let a = (accepted_exactly three _ table.p3.twice).0 refl in none a.0 a.1

-- .. p6 an even hundred ..
abbrev ten : Show
ten = show_of Z (replicate 10 clip)

ten_overloads : ReasonIs ten (Ok (Some reason.Overload))
unfolding show_check first_below counts? drive? layout? session? dec_lt cost_of sum_to listed
ten_overloads =
    let w : ShowWithin ten = check_within ten refl in
    overload w ((overloaded_exactly (load_of ten) (show_sound ten w)).0 (le_refl 512000000000))

-- .. and p2 with a buffer of 102,400 a byte short: with the largest the count is 1.
abbrev pub one : Show
one = show_of X (buffered 102400 ∷ [])

pub one_short : ReasonIs one (Ok (Some (reason.Buffer 0 102401)))
unfolding show_check first_below counts? drive? layout? session? dec_lt cost_of worst_time edges ceil turns sum_to need all both listed padded
one_short =
    buffer 0 102401 (check_within one refl)
    (record {
      counts = set_of (accepted_with (load_of (widest_of one)) (asked (load_of (widest_of one)) 42000)).counts;
      smallest = wide_counts one _ (settles (widest_of one) refl 1 42000 refl tt tt) refl;
      session = omega arith;
      exact = refl;
      short = omega arith;
      lowest = λ j h. absurd (let z : ⊥ = omega arith in z);
    })

either :
    (f t : List ℕ) → SaidIs f t →
    ((r : Reasoned) × (((r ≡ Ok None) ⊎ ForEight r) × (t ≡ reason_text r (tenths (load_of (read_of f).show)))))
    ⊎ ((w : Refusal) × (OneOf (1 ∷ 2 ∷ 3 ∷ 4 ∷ 5 ∷ 6 ∷ 7 ∷ []) (number_of w) × (t ≡ refusal_text w)))
either f t (because r e is) = inl (r, ((reasons.when_true (read_of f).show r is).one (read_within f e), refl))
either f t (unread w e) = inr (w, (only.reading f w e, refl))

pub sayings : Sayings
unfolding show_check first_below counts? drive? layout? session? dec_lt cost_of sum_to listed padded zeroed digits decimal tenths loaded_of
sayings =
    record {
      p3 = said three [] (record { layouts = refl; sessions = refl }) (check_within three refl) (omega arith) (Ok None) three_none refl;
      p6 = said ten [] (record { layouts = refl; sessions = refl }) (check_within ten refl) (omega arith) (Ok (Some reason.Overload)) ten_overloads refl;
      p2 = said one [] (record { layouts = refl; sessions = refl }) (check_within one refl) (omega arith) (Ok (Some (reason.Buffer 0 102401))) one_short refl;
      either = either;
      most = said_most_holds;
    }
