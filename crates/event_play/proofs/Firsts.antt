-- The replay from which a capture is played.
use Rattle.std.proofs.Common.{◌≡◌, ◌==◌, ℕ, [], refl, inl, inr}
use Rattle.std.proofs.lemmas.Bool.{cases_Bool}
use Rattle.event_play.specs.Replay.{Replay, from_state, raised, tall_version}
use Rattle.event_play.specs.Step.{Machine}

-- nothing was shown, noted, changed or spent yet
pub record IsFirst (t : Replay) : Type 0 where
  pub shown : t.shown ≡ []
  pub frames : t.frames ≡ []
  pub notes : t.notes ≡ []
  pub changes : t.changes ≡ []
  pub cost : t.cost ≡ 0
  pub box_cost : t.box_cost ≡ 0

pub raised_first : (t : Replay) (version : ℕ) → IsFirst t → IsFirst (raised t version)
raised_first t version first = elim (cases_Bool (version == tall_version)) [
  | inl is ↦ rw is (record {
    shown = first.shown;
    frames = first.frames;
    notes = first.notes;
    changes = first.changes;
    cost = first.cost;
    box_cost = first.box_cost;
  })
  | inr is ↦ rw is first
]

pub from_first : (s : Machine) (played : ℕ) → IsFirst (from_state s played)
from_first s played = record { shown = refl; frames = refl; notes = refl; changes = refl; cost = refl; box_cost = refl }

pub raised_played : (t : Replay) (version : ℕ) → (raised t version).played ≡ t.played
raised_played t version = elim (cases_Bool (version == tall_version)) [ inl is ↦ rw is refl | inr is ↦ rw is refl ]
