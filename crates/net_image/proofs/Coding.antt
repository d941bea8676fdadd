-- What holds of a network that is written, and of bytes that are read.
use Rattle.std.proofs.Common.{◌≡◌, ℕ, Bool, true, false, cond, eqb, leb, ◌&&◌, ◌||◌, List, [], ◌∷◌, ◌++◌, length, Option, Some, None, Result, Ok, Err, IfOk, IsErrOf, refl, sym, ap, ◌∙◌}
use Rattle.std.specs.Option.{is_none, option_and_then, option_or}
use Rattle.std.specs.List.{list_all}
use Rattle.std.proofs.lemmas.Bool.{and_parts, and_from}
use Rattle.net_model.specs.Links.{is_bond, is_bridge}
use Rattle.net_model.specs.NetData.{NetData, IsNet, is_net, is_in_order}
use Rattle.net_model.specs.Options.{is_default_bond, is_default_bridge}
use Rattle.net_model.specs.Valid.{least_broken, limits_hold, counts_fit, links_fit, unused_default, is_bridge_port, address_count}
use Rattle.net_model.specs.Options.{is_default_port}
use Rattle.net_model.specs.declared.link.Link.{Link}
use Rattle.net_image.specs.Form.{Form, such_that, whole}
use Rattle.net_image.specs.Image.{version_1, version_2, lists, network, fits_first, first_network, net_of, IsImage}
use Rattle.net_image.specs.Links.{is_writable}
use Rattle.net_image.specs.Reading.{Fails, Gives}
use Rattle.net_image.specs.declared.fault.ImageFault.{ImageFault}
use Rattle.net_image.specs.declared.fault.ImageFault.TheVariants.{Damaged, OutOfMemory}

-- what passes two tests passes a third
both_pass : (p q r : Link → Bool) → ((l : Link) → p l ≡ true → q l ≡ true → r l ≡ true) → (ls : List Link) → list_all p ls ≡ true → list_all q ls ≡ true → list_all r ls ≡ true
both_pass p q r third [] one two = refl
both_pass p q r third (l ∷ ls) one two =
    let a = and_parts (p l) (list_all p ls) one in
    let b = and_parts (q l) (list_all q ls) two in
    and_from (r l) (list_all r ls) (third l a.0 b.0) (both_pass p q r third ls a.1 b.1)

-- each link of a network within the limits can be written
pub writable : (net : NetData) → limits_hold net ≡ true → list_all is_writable net.links ≡ true
writable net limits =
    let parts = and_parts (counts_fit net) (unused_default net.links) limits in
    let a = and_parts _ (leb (length net.dns.search) 16) parts.0 in
    let b = and_parts _ (leb (length net.dns.servers) 16) a.0 in
    let c = and_parts _ (leb (length net.rules) 2048) b.0 in
    let d = and_parts (links_fit net.links) (leb (length net.routes) 8192) c.0 in
    let e = and_parts _ (leb (address_count net.links) 8192) d.0 in
    let f = and_parts (leb (length net.links) 1024) _ e.0 in
    both_pass (λ l. leb (length l.addrs) 64)
    (λ l. (is_bond l.kind || is_default_bond l.bond) && (is_bridge l.kind || is_default_bridge l.bridge) && (is_bridge_port net.links l || is_default_port l.port))
    is_writable
    (λ l few unused. let u = and_parts ((is_bond l.kind || is_default_bond l.bond) && (is_bridge l.kind || is_default_bridge l.bridge)) _ unused in let v = and_parts (is_bond l.kind || is_default_bond l.bond) _ u.0 in
    and_from _ _ (and_from _ _ few v.0) v.1)
    net.links f.1 parts.1

pub from_net : (net : NetData) → IsNet net → is_net net ≡ true
from_net net is = and_from (is_none (least_broken net)) (is_in_order net) (ap is_none is.valid) (and_from _ _ (and_from _ _ (and_from _ _ is.in_order.links is.in_order.addrs) is.in_order.routes) is.in_order.rules)

-- the image of a network, whose lists were written behind nothing
pub written : (bytes old : List ℕ) (net : NetData) → IsNet net → old ≡ [] → bytes ≡ old ++ (lists version_2).write net → (lists version_2).fits net ≡ true → IsImage bytes net
unfolding network
written bytes old net is none spelled fits = record { fits = and_from (is_net net) ((lists version_2).fits net) (from_net net is) fits; spelled = spelled ∙ ap (λ (l : List ℕ). l ++ (lists version_2).write net) none }

-- ---- a form, read to the end of the bytes

module _ (form : Form NetData) where
  pub whole_fails : (fault : ImageFault) (bytes : List ℕ) → Fails fault (form.read bytes) → Fails fault (whole form bytes)
  whole_fails Damaged bytes none = ap (option_and_then (λ (x : NetData × List ℕ). cond (eqb (length x.1) 0) (Some x.0) None)) none
  whole_fails OutOfMemory bytes none = tt

  module _ (bytes rest : List ℕ) (given : NetData) (read : form.read bytes ≡ Some (given, rest)) where
    -- where bytes are left, there is nothing
    pub more_behind : eqb (length rest) 0 ≡ false → whole form bytes ≡ None
    more_behind more = ap (option_and_then (λ (x : NetData × List ℕ). cond (eqb (length x.1) 0) (Some x.0) None)) read ∙ ap (λ b. cond b (Some given) None) more

    pub all_read : eqb (length rest) 0 ≡ true → whole form bytes ≡ Some given
    all_read none = ap (option_and_then (λ (x : NetData × List ℕ). cond (eqb (length x.1) 0) (Some x.0) None)) read ∙ ap (λ b. cond b (Some given) None) none

  -- the values that pass a test
  pub whole_tested : (test : NetData → Bool) (bytes : List ℕ) → whole (such_that test form) bytes ≡ option_and_then (λ x. cond (test x) (Some x) None) (whole form bytes)
  whole_tested test bytes = by (form.read bytes)
    where
      out : (x : NetData) (rest : List ℕ) (b c : Bool) → test x ≡ b → eqb (length rest) 0 ≡ c
          → option_and_then (λ (y : NetData × List ℕ). cond (eqb (length y.1) 0) (Some y.0) None) (cond (test x) (Some (x, rest)) None) ≡ option_and_then (λ y. cond (test y) (Some y) None) (cond (eqb (length rest) 0) (Some x) None)
      out x rest true true h k = rw (h, k) (sym (ap (λ b. cond b (Some x) None) h))
      out x rest true false h k = rw (h, k) refl
      out x rest false true h k = rw (h, k) (sym (ap (λ b. cond b (Some x) None) h))
      out x rest false false h k = rw (h, k) refl

      by : (o : Option (NetData × List ℕ)) → option_and_then (λ (y : NetData × List ℕ). cond (eqb (length y.1) 0) (Some y.0) None) (option_and_then (λ (x : NetData × List ℕ). cond (test x.0) (Some x) None) o)
          ≡ option_and_then (λ x. cond (test x) (Some x) None) (option_and_then (λ (y : NetData × List ℕ). cond (eqb (length y.1) 0) (Some y.0) None) o)
      by None = refl
      by (Some x) = out x.0 x.1 (test x.0) (eqb (length x.1) 0) refl refl

-- the network of lists that were read
pub latest_of : (bytes : List ℕ) (given : NetData) → whole (lists version_2) bytes ≡ Some given → whole network bytes ≡ cond (is_net given) (Some given) None
unfolding network
latest_of bytes given read = whole_tested (lists version_2) is_net bytes ∙ ap (option_and_then (λ x. cond (is_net x) (Some x) None)) read

-- where no lists of version 2 are read, there is no network of version 2
pub latest_fails : (fault : ImageFault) (bytes : List ℕ) → Fails fault (whole (lists version_2) bytes) → Fails fault (whole network bytes)
unfolding network
latest_fails Damaged bytes none = whole_tested (lists version_2) is_net bytes ∙ ap (option_and_then (λ x. cond (is_net x) (Some x) None)) none
latest_fails OutOfMemory bytes none = tt

-- the network of lists that were read, of version 1
pub first_of : (bytes : List ℕ) (given : NetData) → whole (lists version_1) bytes ≡ Some given → whole first_network bytes ≡ cond (is_net given && fits_first given) (Some given) None
unfolding first_network
first_of bytes given read = whole_tested (lists version_1) (λ net. is_net net && fits_first net) bytes ∙ ap (option_and_then (λ x. cond (is_net x && fits_first x) (Some x) None)) read

-- where no lists of version 1 are read, there is no network of version 1
pub first_fails : (fault : ImageFault) (bytes : List ℕ) → Fails fault (whole (lists version_1) bytes) → Fails fault (whole first_network bytes)
unfolding first_network
first_fails Damaged bytes none = whole_tested (lists version_1) (λ net. is_net net && fits_first net) bytes ∙ ap (option_and_then (λ x. cond (is_net x && fits_first x) (Some x) None)) none
first_fails OutOfMemory bytes none = tt

-- either version
pub by_latest : (bytes : List ℕ) (net : NetData) → whole network bytes ≡ Some net → net_of bytes ≡ Some net
unfolding net_of
by_latest bytes net h = ap (λ o. option_or o (whole first_network bytes)) h

pub by_first : (bytes : List ℕ) → whole network bytes ≡ None → net_of bytes ≡ whole first_network bytes
unfolding net_of
by_first bytes h = ap (λ o. option_or o (whole first_network bytes)) h

-- where version 2 gives nothing, what version 1 gives is the answer
module _ (bytes : List ℕ) (none : whole network bytes ≡ None) where
  pub first_net : (r : Result NetData ImageFault) → Gives (λ net. net) r (whole first_network bytes) → IfOk r (λ net. net_of bytes ≡ Some net)
  first_net (Ok net) given = by_first bytes none ∙ given
  first_net (Err fault) given = tt

  pub first_damaged : (r : Result NetData ImageFault) → Gives (λ net. net) r (whole first_network bytes) → IsErrOf r Damaged → net_of bytes ≡ None
  first_damaged (Ok net) given is = absurd cc
  first_damaged (Err Damaged) given is = by_first bytes none ∙ given
  first_damaged (Err OutOfMemory) given is = absurd cc

-- whether version 1 can hold valid lists
pub not_first : (net : NetData) → fits_first net ≡ false → cond (is_net net && fits_first net) (Some net) None ≡ None
not_first net h = by (is_net net)
  where
    by : (valid : Bool) → cond (valid && fits_first net) (Some net) None ≡ None
    by true = rw h refl
    by false = refl

-- what version 1 can hold is a network where the lists are valid
pub is_first : (net : NetData) → fits_first net ≡ true → cond (is_net net && fits_first net) (Some net) None ≡ cond (is_net net) (Some net) None
is_first net h = by (is_net net)
  where
    by : (valid : Bool) → cond (valid && fits_first net) (Some net) None ≡ cond valid (Some net) None
    by true = rw h refl
    by false = refl
