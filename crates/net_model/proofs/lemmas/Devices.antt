-- Lists of devices.
use Rattle.std.proofs.Common.{◌≡◌, ℕ, true, ◌&&◌, List, [], ◌∷◌, Option, Some, None, IsTrue, ◌↔◌, refl, ap, subst, ◌∙◌}
use Rattle.std.specs.List.{list_all}
use Rattle.std.specs.Option.{is_none}
use Rattle.net_model.specs.Name.{same_bytes}
use Rattle.net_model.specs.Hardware.{device_of, hardware, same_device, same_devices}
use Rattle.net_model.specs.declared.mac.Mac.{Mac}
use Rattle.net_model.specs.declared.link.Link.{Link}
use Rattle.net_model.proofs.lemmas.Truth.{and_left, and_right}
use Rattle.net_model.proofs.lemmas.Found.{one_name, itself}

head_or_rest : (o : Option (List ℕ × Mac)) (l : Link) (ls : List Link) → device_of l.name l.kind ≡ o → list_all (λ k. is_none (device_of k.name k.kind)) ls ≡ same_devices [] (hardware ls) → (is_none o && list_all (λ k. is_none (device_of k.name k.kind)) ls) ≡ same_devices [] (hardware (l ∷ ls))
head_or_rest None l ls e rest = rw e rest
head_or_rest (Some d) l ls e rest = rw e refl

-- no device is left where each link is virtual
pub none_left : (links : List Link) → list_all (λ l. is_none (device_of l.name l.kind)) links ≡ same_devices [] (hardware links)
none_left [] = refl
none_left (l ∷ ls) = ap (λ o. is_none o && list_all (λ k. is_none (device_of k.name k.kind)) ls) refl ∙ head_or_rest (device_of l.name l.kind) l ls refl (none_left ls)

one_device : (a b : List ℕ × Mac) → same_device a b ≡ true → a ≡ b
one_device a b h =
    let names : a.0 ≡ b.0 = one_name a.0 b.0 (and_left (same_bytes a.0 b.0) (same_bytes a.1.bytes b.1.bytes) h) in
    let bytes : a.1.bytes ≡ b.1.bytes = one_name a.1.bytes b.1.bytes (and_right (same_bytes a.0 b.0) (same_bytes a.1.bytes b.1.bytes) h) in
    let macs : a.1 ≡ b.1 = ap (λ (bs : List ℕ). let m : Mac = record { bytes = bs } in m) bytes in
    ap (λ (n : List ℕ). let d : List ℕ × Mac = (n, a.1) in d) names ∙ ap (λ (m : Mac). let d : List ℕ × Mac = (b.0, m) in d) macs

device_itself : (a : List ℕ × Mac) → same_device a a ≡ true
device_itself a = rw (itself a.0, itself a.1.bytes) refl

one_list : (xs ys : List (List ℕ × Mac)) → same_devices xs ys ≡ true → xs ≡ ys
one_list [] [] h = refl
one_list [] (y ∷ ys) h = cc
one_list (x ∷ xs) [] h = cc
one_list (x ∷ xs) (y ∷ ys) h =
    let head : x ≡ y = one_device x y (and_left (same_device x y) (same_devices xs ys) h) in
    let tail : xs ≡ ys = one_list xs ys (and_right (same_device x y) (same_devices xs ys) h) in
    cc

list_itself : (xs : List (List ℕ × Mac)) → same_devices xs xs ≡ true
list_itself [] = refl
list_itself (x ∷ xs) = rw (device_itself x) (list_itself xs)

-- the test passes exactly for one and the same list
pub same_devices_exact : (xs ys : List (List ℕ × Mac)) → IsTrue (same_devices xs ys) ↔ (xs ≡ ys)
same_devices_exact xs ys = (λ t. one_list xs ys t, λ e. subst (λ zs. same_devices xs zs ≡ true) e (list_itself xs))
