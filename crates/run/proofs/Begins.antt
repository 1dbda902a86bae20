-- A run that is opened is sound, and is of the show given. Assumes nothing.
use Rattle.std.specs.Prelude.{Ok, Err}
use Prim.Native.Nat.{ℕ, ◌≤◌, ◌<◌}
use mathlib.Core.Path.{◌≡◌, refl, sym, ap, subst, ◌∙◌}
use mathlib.Core.Bool.{Bool}
use mathlib.Core.List.{List}
use native.Mathlib.Omega.{arith}
use lib.ListN.{length, get_or, length-append, length-replicate}
use Rattle.show.specs.Outcomes.{Check}
use Rattle.show.specs.declared.Session.{Session}
use Rattle.show.specs.declared.Show.{Show}
use Rattle.show.specs.Limits.{Between, ShowWithin, session_at}
use Rattle.show.specs.Lists.{listed, padded}
use Rattle.show.proofs.Checks.{within_refused}
use Rattle.show.proofs.Lists.{listed_length, filled_none, filled_at}
use Rattle.theory.specs.Counts.{Good, Smallest}
use Rattle.theory.specs.Shows.{load_of}
use Rattle.theory.proofs.Rounds.{good_same}
use Rattle.verdict.specs.declared.Decision.{Decision}
use Rattle.verdict.specs.Answers.{row, set_of}
use Rattle.verdict.proofs.Sets.{set_of_row}
use Rattle.verdict.proofs.Decisions.{accepted_set}
use Rattle.run.specs.declared.Run.{Run}
use Rattle.run.specs.declared.Opened.{Opened}
use Rattle.state.specs.State.{no_state, first_state, StateSound}
use Rattle.run.specs.Run.{left_in}
use Rattle.run.specs.Sound.{NamesEach, SoundRun}
use Rattle.run.specs.Opening.{table_order, first_states, first_run, opened_by, OpenIs}
use Rattle.run.proofs.Orders.{apart_names}
use Rattle.run.proofs.Lefts.{left_within}
use Rattle.run.proofs.Steps.{nothing_read}

table_at : (n k : ℕ) → k < n → get_or (table_order n) k 0 ≡ k
table_at n k l = filled_at 16 0 (λ i. i) n k 0 l

pub table_length : (n : ℕ) → n ≤ 16 → length (table_order n) ≡ 16
unfolding padded
table_length n h = rw (length-append, listed_length (λ (i : ℕ). i) n, length-replicate) (omega arith)

table_names : (n : ℕ) → NamesEach (table_order n) n
table_names n =
    apart_names (table_order n) n (λ k l. rw (table_at n k l) l) (λ j k a b e. sym (table_at n j a) ∙ e ∙ table_at n k b)

-- ---- the first states

pub first_state_at : (s : Show) (i : ℕ) → i < s.playing → get_or (first_states s) i no_state ≡ first_state (session_at s i)
first_state_at s i l = filled_at 16 no_state (λ i. first_state (session_at s i)) s.playing i no_state l

pub first_states_length : (s : Show) → s.playing ≤ 16 → length (first_states s) ≡ 16
unfolding padded
first_states_length s h = rw (length-append, listed_length (λ (i : ℕ). first_state (session_at s i)) s.playing, length-replicate) (omega arith)

first_state_sound : (started : Bool) (x : Session) → StateSound started x (first_state x)
first_state_sound started x =
    record {
      put = omega arith;
      taken = omega arith;
      held = omega arith;
      clock = omega arith;
      early = λ e. record { taken = refl; clock = refl };
    }

-- ---- the first run

row_empty : (n : ℕ) (m : ℕ → ℕ) → n ≡ 0 → get_or (padded 16 0 (listed m n)) 0 0 ≡ 0
row_empty n m e = rw (e, ← filled_none 16 0 m)

-- Of an empty show nothing is left of the first count: there is none.
left_empty : (n : ℕ) (m : ℕ → ℕ) → n ≡ 0 → left_in (padded 16 0 (listed m n)) (table_order n) 0 ≡ 0
unfolding left_in
left_empty n m e = ap (λ (k : ℕ). set_of (padded 16 0 (listed m n)) k) (row_empty n (λ i. i) e) ∙ row_empty n m e

pub first_sound : (s : Show) (m : ℕ → ℕ) → ShowWithin s → Good (load_of s) m → SoundRun (first_run s (row (load_of s) m))
unfolding first_run
first_sound s m w g =
    record {
      within = w;
      counts = good;
      states = λ i l. rw (first_state_at s i l) (first_state_sound _ _);
      order = table_names s.playing;
      cycle =
          record {
            empty = λ e. record { place = refl; left = left_empty s.playing m e; underway = refl };
            turning = λ l. record { place = l; left = first l };
            underway = λ i e. nothing_read e;
          };
    }
  where
    good : Good (load_of s) (set_of (row (load_of s) m))
    good = good_same (load_of s) m _ (λ i l. sym (set_of_row (load_of s) m i l)) g

    counts : List ℕ
    counts = row (load_of s) m

    first : 0 < s.playing → Between 1 (left_in counts (table_order s.playing) 0) (set_of counts (get_or (table_order s.playing) 0 0))
    first l = left_within counts (table_order s.playing) 0 (rw (table_at s.playing 0 l) (good.counted 0 l))

-- ---- what is opened

-- The first run of an accepted show, with its smallest set.
pub record Begins (s : Show) (r : Run) : Type 0 where
  pub set : ℕ → ℕ
  pub within : ShowWithin s
  pub smallest : Smallest (load_of s) set
  pub first : r ≡ first_run s (row (load_of s) set)

granted : (s : Show) (counts : List ℕ) (v : Check) → (opened_by s counts v).check ≡ Ok tt → v ≡ Ok tt
granted s counts (Ok tt) e = refl
granted s counts (Err w) e = within_refused (sym e)

module _ (s : Show) (o : Opened) (h : OpenIs s o) (e : o.check ≡ Ok tt) where
  pub opened_begins : Begins s o.run
  opened_begins =
      let d = h.decision in
      let v = granted s d.counts d.verdict (sym (ap (λ (x : Opened). x.check) h.answers) ∙ e) in
      let a = accepted_set s d h.decides v in
      record {
        set = a.set;
        within = a.within;
        smallest = a.smallest;
        first =
            ap (λ (x : Opened). x.run) h.answers
            ∙ ap (λ (x : Decision). (opened_by s x.counts x.verdict).run) a.answer;
      }

  pub opened_sound : SoundRun o.run
  opened_sound =
      let b = opened_begins in
      subst SoundRun (sym b.first) (first_sound s b.set b.within b.smallest.good)

  pub opened_show : o.run.show ≡ s
  unfolding first_run
  opened_show = ap (λ (r : Run). r.show) opened_begins.first
