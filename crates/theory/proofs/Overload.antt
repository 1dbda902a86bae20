-- An even hundred per cent is too much, and less is not: overloaded exactly if no set is workahead-augmenting, whatever the buffers. Of
-- U the laws `weighs`, `low` and `high` are cited. Assumes nothing.
use Prim.Native.Nat.{ℕ, ◌+◌, ◌*◌, ◌/◌, ◌≤◌, ◌<◌}
use mathlib.Core.Path.{◌≡◌, sym, ◌∙◌, ap}
use mathlib.Core.Logic.{◌↔◌}
use native.Mathlib.Omega.{arith}
use native.Mathlib.Nat.{le_refl, add-mul, mul_assoc, mul_comm, mul_right_comm, mul-le-mul_right, mul-lt-mul_of_pos_right, le_of_mul-le-mul_right}
use native.Mathlib.Nat.{mul-pos, mul-div_cancel, le-div_iff_mul-le}
use native.Mathlib.Decide.{dec_le}
use Rattle.theory.specs.Sum.{sum_to}
use Rattle.theory.specs.Counts.{Load, Sound, unit, round_time, needed, Augmenting, Accepted, whole_load, Overloaded}
use Rattle.theory.specs.Rounds.{need, asked, Sustains}
use Rattle.theory.specs.Reasons.{with_buffers, NeverKeepsUp, tenths}
use Rattle.theory.proofs.Sum.{sum_none, sum_grows, sum_grows_strictly, sum_plus, sum_times}
use Rattle.theory.proofs.Rounds.{need_some, unit_some, asked_augmenting}

module _ (l : Load) (s : Sound l) where
  full_some : 1 ≤ l.cylinder * unit l
  full_some = mul-pos s.cylinder (unit_some l s)

  -- V L + s <= sum of M wt D <= N L D <= V L, so there is no session, and no load.
  pub overload_refuses : Overloaded l → (m : ℕ → ℕ) → Augmenting l m → ⊥
  overload_refuses full m a =
      let none : l.playing ≡ 0 =
      omega (
        arith,
        outlasts,
        takes,
        mul-le-mul_right (round_time l m) full,
        mul_assoc (round_time l m) l.cylinder (unit l),
        mul_comm (round_time l m) (l.cylinder * unit l),
      ) in
      let idle : whole_load l ≡ 0 = rw none (sum_none _) in
      omega (arith, full_some)
    where
      outlasts : whole_load l * round_time l m + l.playing ≤ sum_to (λ i. m i * (l.stream i).weight) l.playing * unit l
      outlasts =
          rw (
            ← sum_times (λ i. (l.stream i).rate * (l.stream i).weight) (round_time l m) l.playing,
            ← sum_times (λ i. m i * (l.stream i).weight) (unit l) l.playing,
          )
          (sum_grows_strictly _ _ l.playing
          (λ i b.
          rw (mul_right_comm (l.stream i).rate (l.stream i).weight (round_time l m), mul_right_comm (m i) (l.stream i).weight (unit l))
          (mul-lt-mul_of_pos_right (a i b) (s.laws i b).weighs)))

      takes : sum_to (λ i. m i * (l.stream i).weight) l.playing * unit l ≤ round_time l m * l.cylinder * unit l
      takes =
          mul-le-mul_right (unit l)
          (rw (← sum_times (λ i. (l.stream i).time (m i)) l.cylinder l.playing)
          (sum_grows _ _ l.playing (λ i b. rw (mul_comm ((l.stream i).time (m i)) l.cylinder) ((s.laws i b).low (m i)))))

  -- K, the sum of every session's weight and surplus: K x D is a time that sustains, where the load is light.
  ample : ℕ
  ample = sum_to (λ i. (l.stream i).weight + (l.stream i).surplus) l.playing

  -- N L <= V K + K <= N D K: each session is asked for R K + 1 blocks.
  ample_sustains : whole_load l < l.cylinder * unit l → Sustains l (ample * unit l)
  unfolding need ample
  ample_sustains light =
      le_of_mul-le-mul_right
      (omega (
        arith,
        takes,
        mul-le-mul_right {m = whole_load l + 1} {n = l.cylinder * unit l} ample (omega arith),
        add-mul (whole_load l) 1 ample,
        mul_comm (l.cylinder * unit l) ample,
        ap (λ (x : ℕ). ample * x) (mul_comm l.cylinder (unit l)),
        mul_assoc ample (unit l) l.cylinder,
      ))
      s.cylinder
    where
      asks : (i : ℕ) → asked l (ample * unit l) i ≡ (l.stream i).rate * ample + 1
      asks i =
          ap (λ (x : ℕ). x / unit l + 1) (sym (mul_assoc (l.stream i).rate ample (unit l)))
          ∙ ap (λ (x : ℕ). x + 1) (mul-div_cancel ((l.stream i).rate * ample) (unit_some l s))

      each : (i : ℕ) → i < l.playing →
          (l.stream i).time (asked l (ample * unit l) i) * l.cylinder
          ≤ (l.stream i).rate * (l.stream i).weight * ample + ((l.stream i).weight + (l.stream i).surplus)
      each i b =
          rw (asks i)
          (omega (
            arith,
            (s.laws i b).high ((l.stream i).rate * ample + 1),
            mul_comm l.cylinder ((l.stream i).time ((l.stream i).rate * ample + 1)),
            add-mul ((l.stream i).rate * ample) 1 (l.stream i).weight,
            mul_right_comm (l.stream i).rate ample (l.stream i).weight,
          ))

      takes : round_time l (asked l (ample * unit l)) * l.cylinder ≤ whole_load l * ample + ample
      takes =
          omega (
            arith,
            sum_grows _ _ l.playing each,
            sum_times (λ i. (l.stream i).time (asked l (ample * unit l) i)) l.cylinder l.playing,
            sum_plus (λ i. (l.stream i).rate * (l.stream i).weight * ample) (λ i. (l.stream i).weight + (l.stream i).surplus) l.playing,
            sum_times (λ i. (l.stream i).rate * (l.stream i).weight) ample l.playing,
          )

  -- Below a hundred per cent some time sustains,
  pub light_has_time : (Overloaded l → ⊥) → (t : ℕ) × Sustains l t
  light_has_time light = (ample * unit l, ample_sustains (omega arith))

  -- so the test tells whether the drive can ever keep up,
  pub overloaded_exactly : Overloaded l ↔ NeverKeepsUp l
  overloaded_exactly = (λ full m c a. overload_refuses full m a, λ never. from never (dec_le (l.cylinder * unit l) (whole_load l)))
    where
      from : NeverKeepsUp l → Dec (Overloaded l) → Overloaded l
      from never (yes full) = full
      from never (no light) =
          let t = light_has_time light in
          absurd (never (asked l t.0) (λ i b. need_some _ _ _) (asked_augmenting l s t.0 t.1))

  -- and so do the tenths of a per cent, though rounded down.
  pub tenths_overload : Overloaded l ↔ (1000 ≤ tenths l)
  unfolding tenths
  tenths_overload =
      let e : (1000 ≤ tenths l) ↔ (1000 * (l.cylinder * unit l) ≤ whole_load l * 1000) = le-div_iff_mul-le full_some in
      (λ full. e.1 (omega arith), λ h. (let g = e.0 h in omega arith))

-- A drive that never keeps up is one that no buffers help.
pub whatever_buffers : (l : Load) → NeverKeepsUp l ↔ ((b : ℕ → ℕ) → Accepted (with_buffers b l) → ⊥)
whatever_buffers l = (
  λ never b a. never a.0 a.1.counted a.1.augmenting,
  λ none m c a.
      none (λ i. needed l i (m i)) (m, record { counted = c; augmenting = a; feasible = λ i h. le_refl (needed l i (m i)) }),
)
