-- How the sessions of a run stand, in the order of their workaheads or in any other, and what a standing has to spare.
use Rattle.std.specs.Prelude.{ℕ, ◌^◌, ◌≤◌, ◌<◌, ◌≡◌, List, replicate, ℤ, pos}
use Rattle.std.specs.Int.Signed.{mag}
use Rattle.show.specs.Lists.{listed, padded}
use Rattle.cost.specs.Bound.{worst_most}
use Rattle.theory.specs.Slack.{spare_by, slack_by}
use Rattle.theory.specs.Shows.{load_of}
use Rattle.verdict.specs.Answers.{set_of, times_of}
use Rattle.run.specs.declared.Run.{Run}
use Rattle.run.specs.Run.{playing}
use Rattle.standing.specs.declared.Standing.{Standing}
use Rattle.order.specs.Order.{ahead_in, place_in, places_of}
use Rattle.standing.specs.Times.{ahead_at}

-- each session's workahead; zeros above
abbrev pub aheads_of : Run → List ℤ
aheads_of r = padded 16 (pos 0) (listed (ahead_at r) (playing r))

-- each of n sessions has a place
abbrev pub PlacedBelow : List ℕ → ℕ → Type 0
PlacedBelow l n = (i : ℕ) → i < n → place_in l i < n

-- and no two the same
abbrev pub PlacedApart : List ℕ → ℕ → Type 0
PlacedApart l n = (i j : ℕ) → i < n → j < n → place_in l i ≡ place_in l j → i ≡ j

-- zeros throughout
abbrev pub no_standing : Standing
no_standing = record { playing = 0; aheads = replicate 16 (pos 0); times = replicate 16 0; places = replicate 16 0 }

-- of a sound run, in increasing workahead
abbrev pub standing_of : Run → Standing
standing_of r =
    record {
      playing = playing r;
      aheads = aheads_of r;
      times = times_of (load_of r.show) (set_of r.counts);
      places = places_of (ahead_in (aheads_of r)) (playing r);
    }

-- Times and workaheads so small that no difference of them passes 64 bits, and a place for each session.
pub record Fit (s : Standing) : Type 0 where
  pub few : s.playing ≤ 16
  pub times : (i : ℕ) → i < s.playing → set_of s.times i < worst_most
  pub aheads : (i : ℕ) → i < s.playing → mag (ahead_in s.aheads i) < 2 ^ 62
  pub below : PlacedBelow s.places s.playing
  pub apart : PlacedApart s.places s.playing

-- what a session of a standing has to spare, and the least of these
abbrev pub spare_in : Standing → ℕ → ℤ
spare_in s k = spare_by (place_in s.places) (ahead_in s.aheads) (set_of s.times) s.playing k

abbrev pub standing_slack : Standing → ℤ
standing_slack s = slack_by (place_in s.places) (ahead_in s.aheads) (set_of s.times) s.playing

-- What `Fit` asks of one session, and of the first k.
pub record Small (u : ℕ) (w : ℤ) (p n : ℕ) : Type 0 where
  pub time : u < worst_most
  pub ahead : mag w < 2 ^ 62
  pub place : p < n

abbrev pub SmallTo : Standing → ℕ → Type 0
SmallTo s k = (i : ℕ) → i < k → Small (set_of s.times i) (ahead_in s.aheads i) (place_in s.places i) s.playing
