-- Links that are released before they go: each of their ports is detached, and they from their controllers.
use Rattle.std.specs.Prelude.{◌≡◌, ℕ, Bool, true, false, List, [], is_some}
use Rattle.net_model.specs.Words.{is_among}
use Rattle.net_model.specs.Links.{named_passes, ports_of}
use Rattle.net_model.specs.Edits.{without}
use Rattle.net_model.specs.NetData.{NetData, IsNet}

-- a network is left; wherever all of these go, what remains without those that go is the same; and no link that had no ports
-- has got some, nor one that had no controller
pub record Releases (names : List (List ℕ)) (old new : NetData) : Type 0 where
  pub net : IsNet new
  pub same : (goes : List ℕ → Bool) → ((n : List ℕ) → is_among names n ≡ true → goes n ≡ true) → without goes new ≡ without goes old
  pub ports : (n : List ℕ) → ports_of old.links n ≡ [] → ports_of new.links n ≡ []
  pub controllers : (n : List ℕ) → named_passes (λ l. is_some l.controller) old.links n ≡ false → named_passes (λ l. is_some l.controller) new.links n ≡ false
