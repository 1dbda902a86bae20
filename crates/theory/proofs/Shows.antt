-- The theory at shows: a show within its limits is a sound load, and a lightened show a lighter one. Assumes nothing.
use Prim.Native.Nat.{ℕ, ◌+◌, ◌-◌, ◌≤◌, ◌<◌}
use mathlib.Core.Path.{◌≡◌, refl, sym, ◌∙◌, ap}
use mathlib.Core.Logic.{if_pos, if_neg}
use mathlib.Core.List.{List, ◌∷◌, [], ◌++◌}
use native.Mathlib.Omega.{arith}
use native.Mathlib.Nat.{le_of_eq, le_trans, add-le-add, mul-le-mul}
use native.Mathlib.Decide.{dec_lt}
use lib.ListN.{length, take, drop, get_or, length-drop, get_or-append}
use lib.Seq.{get_or-append-add, get_or-take, get_or-drop, length-take-le}
use Rattle.show.specs.declared.Drive.{Drive}
use Rattle.show.specs.declared.Layout.{Layout}
use Rattle.show.specs.declared.Session.{Session}
use Rattle.show.specs.declared.Show.{Show}
use Rattle.show.specs.Limits.{ShowWithin, Alike, layout_at, session_at, no_session}
use Rattle.cost.specs.Bound.{Cheaper, worst_time, count_most}
use Rattle.cost.specs.Costs.{cost_of}
use Rattle.cost.proofs.Bound.{worst_cheaper}
use Rattle.cost.proofs.Costs.{session_laws, read_cheaper}
use Rattle.theory.specs.Counts.{Sound, Feasible, Good, Smallest, whole_load}
use Rattle.theory.specs.Lighter.{Light, Lighter}
use Rattle.theory.specs.Shows.{load_of, Quicker, Easier, Eased, without, stood_at, Lightened, eased, left_out, then}
use Rattle.theory.specs.Reasons.{tenths}
use Rattle.theory.proofs.Rounds.{count_capped}
use Rattle.theory.proofs.Lighter.{lighter_then, lighter_good, lighter_load, tenths_grow}

-- A show within its limits is a load of which the theory holds.
pub show_sound : (s : Show) → ShowWithin s → Sound (load_of s)
show_sound s w =
    record {
      block = (let h = w.drive.block.low in omega arith);
      cylinder = w.drive.cylinder.low;
      laws = session_laws s w;
    }

-- Within the limits every count that fits is below the most.
pub feasible_few :
    (s : Show) → ShowWithin s → (m : ℕ → ℕ) → Feasible (load_of s) m → (i : ℕ) → i < s.playing → m i < count_most
feasible_few s w m f i l =
    count_capped _ s.drive.block _ (session_at s i).buffer w.drive.block.low (w.sessions i l).buffer.high (f i l)

-- ---- lightened in place

cost_cheaper : (a b : Show) (i j : ℕ) → Easier a b i j → Cheaper (cost_of a i) (cost_of b j)
unfolding cost_of
cost_cheaper a b i j h =
    let y = h.layout in read_cheaper _ _ y.longest y.track y.time y.rotation

easier_light : (a b : Show) → a.drive ≡ b.drive → (i j : ℕ) → Easier a b i j → Light ((load_of a).stream i) ((load_of b).stream j)
easier_light a b e i j h =
    record {
      rate = h.rate;
      cushion = h.cushion;
      buffer = h.buffer;
      time = λ n.
          le_trans (worst_cheaper a.drive.cylinder (cost_of a i) (cost_of b j) (cost_cheaper a b i j h) n)
          (le_of_eq (ap (λ (d : Drive). worst_time d.cylinder (cost_of b j) n) e));
    }

easier_weight :
    (a b : Show) → a.drive ≡ b.drive → (i j : ℕ) → Easier a b i j → ((load_of a).stream i).weight ≤ ((load_of b).stream j).weight
easier_weight a b e i j h =
    let c = cost_cheaper a b i j h in
    add-le-add (mul-le-mul (le_of_eq (ap (λ (d : Drive). d.cylinder) e)) c.each) c.cross

pub eased_lighter : (a b : Show) → Eased a b → Lighter (load_of a) (load_of b) (λ i. i)
eased_lighter a b h =
    record {
      block = ap (λ (d : Drive). d.block) h.drive;
      inside = λ i l. rw h.playing at l;
      rising = λ i j l g. l;
      stream = λ i l. easier_light a b h.drive i i (h.session i l);
    }

-- ---- one session left out

quicker_same : (x y : Layout) → x ≡ y → Quicker x y
quicker_same x y e =
    record {
      longest = le_of_eq (ap (λ (z : Layout). z.longest) e);
      track = le_of_eq (ap (λ (z : Layout). z.track) e);
      time = le_of_eq (ap (λ (z : Layout). z.time) e);
      rotation = le_of_eq (ap (λ (z : Layout). z.rotation) e);
    }

-- The same session on the same layout is no harder.
easier_same :
    (a b : Show) (i j : ℕ) → session_at a i ≡ session_at b j →
    layout_at a (session_at a i).layout ≡ layout_at b (session_at b j).layout → Easier a b i j
easier_same a b i j e y =
    record {
      rate = le_of_eq (ap (λ (x : Session). x.rate) e);
      cushion = le_of_eq (ap (λ (x : Session). x.cushion) e);
      buffer = le_of_eq (ap (λ (x : Session). x.buffer) (sym e));
      layout = quicker_same _ _ y;
    }

-- What stands at each place of the list without its place k.
gone_below : (k : ℕ) (l r : List Session) (i : ℕ) → k ≤ length l → i < k → get_or (take k l ++ r) i no_session ≡ get_or l i no_session
gone_below k l r i h g =
    get_or-append (take k l) r no_session i (rw (length-take-le k l h) g) ∙ get_or-take k l i no_session g

gone_above :
    (k : ℕ) (l : List Session) (i : ℕ) → k ≤ i → i + 1 < length l →
    get_or (take k l ++ (drop (k + 1) l ++ (no_session ∷ []))) i no_session ≡ get_or l (i + 1) no_session
gone_above k l i h g =
    ap (λ (n : ℕ). get_or (take k l ++ (drop (k + 1) l ++ (no_session ∷ []))) n no_session) place
    ∙ get_or-append-add (take k l) (drop (k + 1) l ++ (no_session ∷ [])) (i - k) no_session
    ∙ get_or-append (drop (k + 1) l) (no_session ∷ []) no_session (i - k) (rw (length-drop (k + 1) l) (omega arith))
    ∙ get_or-drop (k + 1) l (i - k) no_session
    ∙ ap (λ (n : ℕ). get_or l n no_session) (omega arith)
  where
    place : i ≡ length (take k l) + (i - k)
    place = rw (length-take-le k l (omega arith)) (omega arith)

module _ (s : Show) (k : ℕ) (inside : k < s.playing) (held : s.playing ≤ length s.sessions) where
  stood : (i : ℕ) → i < s.playing - 1 → Dec (i < k) → session_at (without k s) i ≡ session_at s (stood_at k i)
  unfolding stood_at
  stood i h (yes l) =
      gone_below k s.sessions _ i (omega arith) l ∙ ap (session_at s) (sym (if_pos (dec_lt i k) l i (i + 1)))
  stood i h (no l) =
      gone_above k s.sessions i (omega arith) (omega arith) ∙ ap (session_at s) (sym (if_neg (dec_lt i k) l i (i + 1)))

  stood_inside : (i : ℕ) → i < s.playing - 1 → Dec (i < k) → stood_at k i < s.playing
  unfolding stood_at
  stood_inside i h (yes l) = rw (if_pos (dec_lt i k) l i (i + 1)) (omega arith)
  stood_inside i h (no l) = rw (if_neg (dec_lt i k) l i (i + 1)) (omega arith)

  stood_rising : (i j : ℕ) → i < j → Dec (i < k) → Dec (j < k) → stood_at k i < stood_at k j
  unfolding stood_at
  stood_rising i j h (yes l) (yes g) = rw (if_pos (dec_lt i k) l i (i + 1), if_pos (dec_lt j k) g j (j + 1)) h
  stood_rising i j h (yes l) (no g) = rw (if_pos (dec_lt i k) l i (i + 1), if_neg (dec_lt j k) g j (j + 1)) (omega arith)
  stood_rising i j h (no l) (yes g) = absurd (l (omega arith))
  stood_rising i j h (no l) (no g) = rw (if_neg (dec_lt i k) l i (i + 1), if_neg (dec_lt j k) g j (j + 1)) (omega arith)

  left_out_easier : (i : ℕ) → i < s.playing - 1 → Easier (without k s) s i (stood_at k i)
  left_out_easier i h =
      let e = stood i h (dec_lt i k) in
      easier_same (without k s) s i (stood_at k i) e (ap (λ (x : Session). layout_at s x.layout) e)

  pub left_out_lighter : Lighter (load_of (without k s)) (load_of s) (stood_at k)
  left_out_lighter =
      record {
        block = refl;
        inside = λ i h. stood_inside i h (dec_lt i k);
        rising = λ i j h g. stood_rising i j h (dec_lt i k) (dec_lt j k);
        stream = λ i h. easier_light (without k s) s refl i (stood_at k i) (left_out_easier i h);
      }

  -- What is left is within the limits.
  pub left_out_within : ShowWithin s → ShowWithin (without k s)
  left_out_within w =
      record {
        counts = record { layouts = w.counts.layouts; sessions = (let n = w.counts.sessions in omega arith) };
        drive = w.drive;
        layouts = w.layouts;
        sessions = λ i h. rw (stood i h (dec_lt i k)) (w.sessions (stood_at k i) (stood_inside i h (dec_lt i k)));
      }

-- ---- one after another

pub lightened_lighter : (a b : Show) (e : ℕ → ℕ) → Lightened a b e → Lighter (load_of a) (load_of b) e
lightened_lighter a b e (eased h) = eased_lighter a b h
lightened_lighter a b e (left_out k h g) = left_out_lighter b k h g
lightened_lighter a c e (then {b = b} {e = p} {f = q} g h) =
    lighter_then (load_of a) (load_of b) (load_of c) p q (lightened_lighter a b p g) (lightened_lighter b c q h)

-- Nothing that makes a show lighter changes the drive ..
pub lightened_drive : (a b : Show) (e : ℕ → ℕ) → Lightened a b e → a.drive ≡ b.drive
lightened_drive a b e (eased h) = h.drive
lightened_drive a b e (left_out k h g) = refl
lightened_drive a c e (then {b = b} {e = p} {f = q} g h) = lightened_drive a b p g ∙ lightened_drive b c q h

-- .. or gives it more to do: in the sum ..
pub load_lighter : (a b : Show) (e : ℕ → ℕ) → Lightened a b e → whole_load (load_of a) ≤ whole_load (load_of b)
load_lighter a b e (eased h) =
    lighter_load (load_of a) (load_of b) e (eased_lighter a b h) (λ i l. easier_weight a b h.drive i i (h.session i l))
load_lighter a b e (left_out k h g) =
    lighter_load (load_of a) (load_of b) e (left_out_lighter b k h g)
    (λ i l. easier_weight a b refl i (stood_at k i) (left_out_easier b k h g i l))
load_lighter a c e (then {b = b} {e = p} {f = q} g h) = le_trans (load_lighter a b p g) (load_lighter b c q h)

-- .. and in tenths of a per cent.
pub tenths_lighter : (a b : Show) (e : ℕ → ℕ) → Lightened a b e → tenths (load_of a) ≤ tenths (load_of b)
tenths_lighter a b e h =
    let d = lightened_drive a b e h in
    tenths_grow (load_of a) (load_of b) (ap (λ (x : Drive). x.cylinder) d) (ap (λ (x : Drive). x.block) d) (load_lighter a b e h)

-- ---- unused places

pub alike_back : (s t : Show) → Alike s t → Alike t s
alike_back s t a =
    record {
      drive = sym a.drive;
      laid = sym a.laid;
      playing = sym a.playing;
      layouts = λ i l. sym (a.layouts i (rw a.laid l));
      sessions = λ i l. sym (a.sessions i (rw a.playing l));
    }

-- Shows that agree below their counts are no harder than each other ..
pub alike_eased : (s t : Show) → Alike s t → ShowWithin s → Eased s t
alike_eased s t a w =
    record {
      drive = a.drive;
      playing = a.playing;
      session = λ i l.
          easier_same s t i i (a.sessions i l)
          (a.layouts (session_at s i).layout (w.sessions i l).layout ∙ ap (λ (x : Session). layout_at t x.layout) (a.sessions i l));
    }

-- .. so a set that is good for one is good for the other,
pub alike_good : (s t : Show) → Alike s t → ShowWithin s → (m : ℕ → ℕ) → Good (load_of t) m → Good (load_of s) m
alike_good s t a w = lighter_good (load_of s) (load_of t) (λ i. i) (eased_lighter s t (alike_eased s t a w))

-- and the smallest of one is the smallest of the other.
pub alike_smallest : (s t : Show) → Alike s t → ShowWithin s → ShowWithin t → (m : ℕ → ℕ) → Smallest (load_of t) m → Smallest (load_of s) m
alike_smallest s t a w v m h =
    record {
      good = alike_good s t a w m h.good;
      least = λ o g i l. h.least o (alike_good t s (alike_back s t a) v o g) i (rw a.playing at l);
    }
