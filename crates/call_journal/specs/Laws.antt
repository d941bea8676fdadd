-- What holds of calls as bytes, of journals and of kernel areas.
use Rattle.std.specs.Prelude.{◌≡◌, ◌≤◌, ℕ, true, false, List, [], ◌++◌, length, Some}
use Rattle.net_model.specs.NetData.{NetData}
use Rattle.net_model.specs.declared.call.Call.{Call}
use Rattle.net_image.specs.Form.{whole}
use Rattle.net_image.specs.Image.{IsImage, IsFirstImage}
use Rattle.net_image.specs.Laws.{AreBytes}
use Rattle.call_journal.specs.Calls.{call_form}
use Rattle.call_journal.specs.Replay.{replayed, Replays}
use Rattle.call_journal.specs.Area.{is_first, kernel_net, Stands}

-- the bytes are those of the call
pub record IsCall (bytes : List ℕ) (call : Call) : Type 0 where
  pub fits : call_form.fits call ≡ true
  pub spelled : bytes ≡ call_form.write call

pub record CallLaws : Type 0 where
  -- a call has one spelling
  pub one : (a b : List ℕ) (call : Call) → IsCall a call → IsCall b call → a ≡ b
  -- and bytes are those of one call
  pub alone : (bytes : List ℕ) (c d : Call) → IsCall bytes c → IsCall bytes d → c ≡ d
  -- no call is a proper prefix of another
  pub no_prefix : (a rest : List ℕ) (c d : Call) → IsCall a c → IsCall (a ++ rest) d → rest ≡ []
  pub short : (bytes : List ℕ) (call : Call) → IsCall bytes call → length bytes ≤ 4339
  -- the call that is read is the one whose bytes these are
  pub read : (bytes : List ℕ) (call : Call) → IsCall bytes call → whole call_form bytes ≡ Some call
  pub found : (bytes : List ℕ) (call : Call) → AreBytes bytes → whole call_form bytes ≡ Some call → IsCall bytes call

pub record JournalLaws : Type 0 where
  -- where records lead somewhere, they are replayed so
  pub read : (net last : NetData) (bytes : List ℕ) (place : ℕ) → Replays net bytes last place → replayed net bytes ≡ Some (last, place)
  -- and what is replayed is what records lead to
  pub found : (net last : NetData) (bytes : List ℕ) (place : ℕ) → AreBytes bytes → replayed net bytes ≡ Some (last, place) → Replays net bytes last place

pub record AreaLaws : Type 0 where
  -- the version of an image is told by its first four bytes
  pub latest : (image : List ℕ) (net : NetData) → IsImage image net → is_first image ≡ false
  pub first : (image : List ℕ) (net : NetData) → IsFirstImage image net → is_first image ≡ true
  -- an area that stands for a network reads as it
  pub read : (bytes : List ℕ) (net : NetData) → Stands bytes net → kernel_net bytes ≡ Some net
  -- and the network that is read is the one that it stands for
  pub found : (bytes : List ℕ) (net : NetData) → AreBytes bytes → kernel_net bytes ≡ Some net → Stands bytes net
