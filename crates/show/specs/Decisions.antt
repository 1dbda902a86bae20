-- Each limit is told: yes with the proof that it is kept, or no with the proof that it is not. The types say all, so that nothing
-- below them need be believed.
use Rattle.std.specs.Prelude.{ℕ}
use Rattle.std.proofs.Math.Logic.{dite}
use Rattle.std.proofs.Math.Logic.Dec
use Rattle.std.proofs.Math.Decide.{dec_le, dec_lt, ℕ_discrete}
use Rattle.show.specs.declared.Drive.{Drive}
use Rattle.show.specs.declared.Layout.{Layout}
use Rattle.show.specs.declared.Session.{Session}
use Rattle.show.specs.Limits.{Between, DriveWithin, LayoutWithin, SessionWithin, CountsWithin}

-- A statement is told where another is that holds exactly when it does.
abbrev pub decided : {p q : Type 0} → (p → q) → (q → p) → Dec p → Dec q
decided there back d = dite d (λ h. yes (there h)) (λ n. no (λ h. n (back h)))

unfoldable pub between? : (least x most : ℕ) → Dec (Between least x most)
unfolding Dec.and dec_le
between? least x most =
    decided (λ h. record { low = h.0; high = h.1 }) (λ b. (b.low, b.high)) (Dec.and (dec_le _ _) (dec_le _ _))

unfoldable pub drive? : (d : Drive) → Dec (DriveWithin d)
unfolding Dec.and between? ℕ_discrete
drive? d =
    decided (λ h. record { block = h.0; whole = h.1.0; cylinder = h.1.1 }) (λ b. (b.block, (b.whole, b.cylinder)))
    (Dec.and (between? _ _ _) (Dec.and (ℕ_discrete _ _) (between? _ _ _)))

unfoldable pub layout? : (y : Layout) → Dec (LayoutWithin y)
unfolding Dec.and between? dec_le
layout? y =
    decided (λ h. record { longest = h.0; track = h.1.0; time = h.1.1.0; rotation = h.1.1.1 })
    (λ b. (b.longest, (b.track, (b.time, b.rotation))))
    (Dec.and (dec_le _ _) (Dec.and (dec_le _ _) (Dec.and (between? _ _ _) (dec_le _ _))))

unfoldable pub session? : (laid : ℕ) (x : Session) → Dec (SessionWithin laid x)
unfolding Dec.and between? dec_lt
session? laid x =
    decided (λ h. record { rate = h.0; cushion = h.1.0; buffer = h.1.1.0; layout = h.1.1.1 })
    (λ b. (b.rate, (b.cushion, (b.buffer, b.layout))))
    (Dec.and (between? _ _ _) (Dec.and (between? _ _ _) (Dec.and (between? _ _ _) (dec_lt _ _))))

unfoldable pub counts? : (laid playing : ℕ) → Dec (CountsWithin laid playing)
unfolding Dec.and between? dec_le
counts? laid playing =
    decided (λ h. record { layouts = h.0; sessions = h.1 }) (λ b. (b.layouts, b.sessions))
    (Dec.and (between? _ _ _) (dec_le _ _))
