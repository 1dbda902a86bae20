-- Whether a run is sound is told: yes with the proof that it is, or no with the proof that it is not. The types say all, so that nothing
-- below them need be believed.
use Rattle.std.specs.Prelude.{ℕ, zero, suc, ◌<◌, ◌≡◌, refl, List, get_or, Some, None, Option}
use Rattle.std.proofs.Common.{sym, subst, ◌∙◌, arith}
use Rattle.std.proofs.Math.Logic.Dec
use Rattle.std.proofs.Math.Decide.{dec_le, dec_lt, ℕ_discrete}
use Rattle.show.specs.Outcomes.{Check}
use Rattle.show.specs.declared.Show.{Show}
use Rattle.show.specs.declared.refusal.Refusal.TheVariants.{Damaged}
use Rattle.show.specs.Checks.{unless}
use Rattle.show.specs.Limits.{ShowWithin, layout_at, session_at}
use Rattle.show.specs.Decisions.{decided, between?, counts?, drive?, layout?, session?}
use Rattle.theory.specs.Counts.{Load, Good}
use Rattle.theory.specs.Shows.{load_of}
use Rattle.verdict.specs.Answers.{set_of}
use Rattle.state.specs.Decisions.{when?, state?}
use Rattle.run.specs.declared.Run.{Run}
use Rattle.run.specs.Run.{playing, clip_at, state_at, PutAt, RoomAt}
use Rattle.run.specs.Sound.{NamedOnce, Turning, Resting, MayRead, CycleSound, SoundRun}

-- ---- of statements

-- one of every number below n
unfoldable pub below? : {p : ℕ → Type 0} → ((i : ℕ) → Dec (p i)) → (n : ℕ) → Dec ((i : ℕ) → i < n → p i)
below? d zero = yes (λ i l. absurd (let f : ⊥ = omega arith in f))
below? {p} d (suc n) =
    decided (λ h i l. last i l (dec_lt i n) h.0 h.1) (λ h. ((λ i l. h i (omega arith)), h n (omega arith)))
    (Dec.and (below? d n) (d n))
  where
    last : (i : ℕ) → i < suc n → Dec (i < n) → ((k : ℕ) → k < n → p k) → p n → p i
    last i l (yes m) h g = h i m
    last i l (no m) h g = subst p (omega arith) g

-- one of some number below n
unfoldable pub some? : {p : ℕ → Type 0} → ((k : ℕ) → Dec (p k)) → (n : ℕ) → Dec ((k : ℕ) × ((k < n) × p k))
some? d zero = no (λ h. let l = h.1.0 in let f : ⊥ = omega arith in f)
some? {p} d (suc n) = from (some? d n) (d n)
  where
    from : Dec ((k : ℕ) × ((k < n) × p k)) → Dec (p n) → Dec ((k : ℕ) × ((k < suc n) × p k))
    from (yes h) e = yes (h.0, ((let l = h.1.0 in omega arith), h.1.1))
    from (no h) (yes g) = yes (n, (omega arith, g))
    from (no h) (no g) = no (λ w. apart w (dec_lt w.0 n))
      where
        apart : (w : (k : ℕ) × ((k < suc n) × p k)) → Dec (w.0 < n) → ⊥
        apart w (yes l) = h (w.0, (l, w.1.1))
        apart w (no l) = g (subst p (let m = w.1.0 in omega arith) w.1.1)

-- ---- of a run

unfoldable pub show? : (s : Show) → Dec (ShowWithin s)
show? s =
    decided (λ h. record { counts = h.0; drive = h.1.0; layouts = h.1.1.0; sessions = h.1.1.1 })
    (λ w. (w.counts, (w.drive, (w.layouts, w.sessions))))
    (Dec.and (counts? _ _)
    (Dec.and (drive? _) (Dec.and (below? (λ i. layout? (layout_at s i)) s.laid) (below? (λ i. session? s.laid (session_at s i)) s.playing))))

unfoldable pub good? : (l : Load) (m : ℕ → ℕ) → Dec (Good l m)
good? l m =
    decided (λ h. record { counted = h.0; augmenting = h.1.0; feasible = h.1.1 })
    (λ g. (g.counted, (g.augmenting, g.feasible)))
    (Dec.and (below? (λ i. dec_le _ _) l.playing) (Dec.and (below? (λ i. dec_lt _ _) l.playing) (below? (λ i. dec_le _ _) l.playing)))

unfoldable pub named? : (order : List ℕ) (n i : ℕ) → Dec (NamedOnce order n i)
named? order n i = from (some? (λ k. ℕ_discrete (get_or order k 0) i) n)
  where
    from : Dec ((k : ℕ) × ((k < n) × (get_or order k 0 ≡ i))) → Dec (NamedOnce order n i)
    from (no none) = no (λ h. none (h.place, (h.inside, h.names)))
    from (yes h) =
        decided (λ only. record { place = h.0; inside = h.1.0; names = h.1.1; only = only })
        (λ o k l e. o.only k l e ∙ sym (o.only h.0 h.1.0 h.1.1))
        (below? (λ k. when? (ℕ_discrete (get_or order k 0) i) (ℕ_discrete k h.0)) n)

unfoldable pub nothing? : (u : (Option ℕ)) → Dec (u ≡ None)
nothing? None = yes refl
nothing? (Some i) = no (λ e. let z : ◌≡◌ {A = ℕ} 0 1 = cc in let f : ⊥ = omega arith in f)

unfoldable pub room? : (r : Run) (i : ℕ) → Dec (RoomAt r i)
room? r i = dec_le _ _

unfoldable pub put? : (r : Run) (i : ℕ) → Dec (PutAt r i)
put? r i = dec_le _ _

unfoldable pub may_read? : (r : Run) (i : ℕ) → Dec (MayRead r i)
may_read? r i =
    decided (λ h. record { seat = h.0; room = h.1.0; put = h.1.1 }) (λ m. (m.seat, (m.room, m.put)))
    (Dec.and (ℕ_discrete _ _) (Dec.and (room? r i) (put? r i)))

unfoldable pub underway? : (r : Run) (u : (Option ℕ)) → Dec ((i : ℕ) → u ≡ Some i → MayRead r i)
underway? r None = yes (λ i e. absurd (let z : ◌≡◌ {A = ℕ} 0 1 = cc in let f : ⊥ = omega arith in f))
underway? r (Some k) =
    decided (λ h i e. let s : k ≡ i = cc in subst (MayRead r) s h) (λ f. f k refl) (may_read? r k)

unfoldable pub cycle? : (r : Run) → Dec (CycleSound r)
cycle? r =
    decided (λ h. record { empty = h.0; turning = h.1.0; underway = h.1.1 }) (λ c. (c.empty, (c.turning, c.underway)))
    (Dec.and (when? (ℕ_discrete _ _) resting?) (Dec.and (when? (dec_lt _ _) turning?) (underway? r r.underway)))
  where
    resting? : Dec (Resting r)
    resting? =
        decided (λ h. record { place = h.0; left = h.1.0; underway = h.1.1 }) (λ s. (s.place, (s.left, s.underway)))
        (Dec.and (ℕ_discrete _ _) (Dec.and (ℕ_discrete _ _) (nothing? r.underway)))

    turning? : Dec (Turning r)
    turning? = decided (λ h. record { place = h.0; left = h.1 }) (λ t. (t.place, t.left)) (Dec.and (dec_lt _ _) (between? _ _ _))

unfoldable pub sound? : (r : Run) → Dec (SoundRun r)
sound? r =
    decided (λ h. record { within = h.0; counts = h.1.0; states = h.1.1.0; order = h.1.1.1.0; cycle = h.1.1.1.1 })
    (λ s. (s.within, (s.counts, (s.states, (s.order, s.cycle)))))
    (Dec.and (show? r.show)
    (Dec.and (good? (load_of r.show) (set_of r.counts))
    (Dec.and (below? (λ i. state? r.started (clip_at r i) (state_at r i)) (playing r))
    (Dec.and (below? (named? r.order (playing r)) (playing r)) (cycle? r)))))

-- 19
abbrev pub sound_check : Run → Check
sound_check r = unless (sound? r) Damaged
