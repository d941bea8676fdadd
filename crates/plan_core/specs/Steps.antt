-- What is taken off and put on, call by call.
use Rattle.std.specs.Prelude.{◌≡◌, ℕ, Option, Some, None}
use Rattle.net_model.specs.declared.Call.{Call}
use Rattle.link_planner.specs.Drafts.{DraftData, IsSafe, Advances, with_call}
use Rattle.plan_core.specs.Parts.{IsPartOf}

-- with at most so many calls, which take off alone, this has come to hold
pub record TakesOff (n : ℕ) (P : DraftData → Type 0) (old new : DraftData) : Type 0 where
  pub advances : Advances n old new
  pub part : IsPartOf new.net old.net
  pub done : P new

-- with at most so many calls, which put on alone, and only what stands in target
pub record PutsOn (n : ℕ) (P : DraftData → Type 0) (old new : DraftData) : Type 0 where
  pub advances : Advances n old new
  pub part : IsPartOf old.net new.net
  pub within : IsPartOf new.net new.target
  pub links : old.net.links ≡ old.target.links → new.net.links ≡ new.target.links
  pub done : P new

-- the call may be made, and does that
pub record IsTaking (P : DraftData → Type 0) (d : DraftData) (call : Call) : Type 0 where
  pub safe : IsSafe d.start d.target call d.net
  pub takes : TakesOff 1 P d (with_call call d)

pub record IsPutting (P : DraftData → Type 0) (d : DraftData) (call : Call) : Type 0 where
  pub safe : IsSafe d.start d.target call d.net
  pub puts : PutsOn 1 P d (with_call call d)

-- such a call, or none, where this holds already
abbrev pub MayTakeOff : (DraftData → Type 0) → DraftData → Option Call → Type 0
MayTakeOff P d None = P d
MayTakeOff P d (Some call) = IsTaking P d call

abbrev pub MayPutOn : (DraftData → Type 0) → DraftData → Option Call → Type 0
MayPutOn P d None = P d
MayPutOn P d (Some call) = IsPutting P d call
