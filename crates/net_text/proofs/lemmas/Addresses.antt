-- Addresses, prefixes and MAC addresses are read exactly by their grammar, and what is written is read again.
use Rattle.std.proofs.Common.{◌≡◌, ℕ, ◌+◌, ◌<◌, ◌≤◌, ◌^◌, ◌==◌, Bool, true, false, nat_le, List, ◌∷◌, ◌++◌, Option, Some, None, length, take, drop, refl, ap, sym, ◌∙◌, subst, arith, inl, inr}
use Rattle.std.proofs.lemmas.Bool.{cond-true, le-leb, leb-true}
use Rattle.std.specs.Fmt.{decimal}
use Rattle.std.specs.List.{position}
use Rattle.std.specs.Option.{option_map}
use Rattle.net_model.specs.Address.{Address, Block, address, block, max_len, IsAddress, IsPrefix}
use Rattle.net_model.specs.declared.mac.Mac.{Mac}
use Rattle.addr_text.specs.Digits.{octet_of}
use Rattle.addr_text.specs.Dotted.{dotted_of}
use Rattle.addr_text.specs.Find.{at_place}
use Rattle.addr_text.specs.Mac.{IsMac}
use Rattle.addr_text.specs.MacReader.{mac_of}
use Rattle.addr_text.specs.V6Reader.{v6_of}
use Rattle.addr_text.proofs.lemmas.Cases.{placed_or_none, mapped, kept}
use Rattle.addr_text.proofs.lemmas.Exact.{v6_sound, v6_complete, dotted_not_v6}
use Rattle.addr_text.proofs.lemmas.MacLaws.{mac_sound, mac_complete}
use Rattle.addr_text.proofs.lemmas.Numbers.{octet_of-decimal}
use Rattle.addr_text.proofs.lemmas.Octets.{dotted_sound, dotted_complete, octet_sound}
use Rattle.addr_text.proofs.lemmas.Slash.{dotted_lacks_slash, v6_lacks_slash}
use Rattle.addr_text.proofs.lemmas.Split.{lacks, position-front, position-lacks, split-at, take-front, drop-front}
use Rattle.addr_text.proofs.lemmas.Written.{v6_text-reads}
use Rattle.net_text.specs.AddrText.{hardware, hardware_of, addr_text, prefix_text, addr_of, prefix_of, whole, with_length, IsTextOf, IsAddrText, IsPrefixText}

-- a text that is read as an address is one of its texts
pub addr_sound : (t : List ℕ) (a : Address) → addr_of t ≡ Some a → IsAddrText t a
addr_sound t a h =
    elim (placed_or_none (dotted_of t) (option_map (address true) (v6_of t)) (λ n. Some (address false n)) (Some a) h) [
      | inl e ↦
          let m = mapped (address true) (v6_of t) a e.1 in
          subst (IsAddrText t) m.made (v6_sound t m.item m.found)
      | inr p ↦
          let e : Some (address false p.place) ≡ Some a = p.read in
          let f : address false p.place ≡ a = cc in
          subst (IsAddrText t) f (dotted_sound t p.place p.found)
    ]

-- an IPv6 text is no IPv4 address
v6_not_dotted : (t : List ℕ) (bits : ℕ) (o : Option ℕ) → dotted_of t ≡ o → v6_of t ≡ Some bits → o ≡ None
v6_not_dotted t bits None e h = refl
v6_not_dotted t bits (Some n) e h =
    let z : None ≡ Some bits = sym (dotted_not_v6 t n (dotted_sound t n e)) ∙ h in
    cc

text_complete : (v6 : Bool) (t : List ℕ) (bits : ℕ) → IsTextOf v6 t bits → addr_of t ≡ Some (address v6 bits)
text_complete false t bits h = ap (λ o. at_place o (option_map (address true) (v6_of t)) (λ n. Some (address false n))) (dotted_complete t bits h)
text_complete true t bits h =
    let e : v6_of t ≡ Some bits = v6_complete t bits h in
    ap (λ o. at_place o (option_map (address true) (v6_of t)) (λ n. Some (address false n))) (v6_not_dotted t bits (dotted_of t) refl e)
    ∙ ap (option_map (address true)) e

-- and each of its texts is read as it
pub addr_complete : (t : List ℕ) (a : Address) → IsAddrText t a → addr_of t ≡ Some a
addr_complete t a h = text_complete a.v6 t a.bits h

text_lacks : (v6 : Bool) (t : List ℕ) (bits : ℕ) → IsTextOf v6 t bits → lacks 47 t ≡ true
text_lacks false t bits h = dotted_lacks_slash t bits h
text_lacks true t bits h = v6_lacks_slash t bits h

-- an address with a length
record Lengthened (addr : Option Address) (len : Option ℕ) (b : Block) : Type 0 where
  item : Address
  number : ℕ
  addr_is : addr ≡ Some item
  len_is : len ≡ Some number
  within : number ≤ max_len item.v6
  made : block item number ≡ b

lengthened : (addr : Option Address) (len : Option ℕ) (b : Block) → with_length addr len ≡ Some b → Lengthened addr len b
lengthened None len b h = cc
lengthened (Some a) None b h = cc
lengthened (Some a) (Some n) b h =
    let k = kept (nat_le n (max_len a.v6)) (block a n) b h in
    record { item = a; number = n; addr_is = refl; len_is = refl; within = leb-true n (max_len a.v6) k.0; made = k.1 }

with_text : (t front back : List ℕ) (a : Address) (n : ℕ) → front ++ 47 ∷ back ≡ t → IsAddrText front a → back ≡ decimal n → n ≤ max_len a.v6 → IsPrefixText t (block a n)
with_text t front back a n e h d w = inl (record { front = front; written = sym e ∙ ap (λ u. front ++ 47 ∷ u) d; address = h; within = w })

-- a text that is read as a prefix is one of its texts
pub prefix_sound : (t : List ℕ) (b : Block) → prefix_of t ≡ Some b → IsPrefixText t b
prefix_sound t b h =
    elim (placed_or_none (position (λ c. c == 47) t) (option_map whole (addr_of t)) (λ i. with_length (addr_of (take i t)) (octet_of (drop (i + 1) t))) (Some b) h) [
      | inl e ↦
          let m = mapped whole (addr_of t) b e.1 in
          subst (IsPrefixText t) m.made (inr (addr_sound t m.item m.found, refl))
      | inr p ↦
          let l = lengthened (addr_of (take p.place t)) (octet_of (drop (p.place + 1) t)) b p.read in
          let d = octet_sound (drop (p.place + 1) t) l.number l.len_is in
          subst (IsPrefixText t) l.made (with_text t (take p.place t) (drop (p.place + 1) t) l.item l.number (split-at 47 t p.place p.found) (addr_sound (take p.place t) l.item l.addr_is) d.1 l.within)
    ]

-- a prefix length is below 256
pub max_len_small : (v6 : Bool) → max_len v6 < 256
max_len_small true = omega arith
max_len_small false = omega arith

length_complete : (t front : List ℕ) (a : Address) (n : ℕ) → t ≡ front ++ 47 ∷ decimal n → IsAddrText front a → n ≤ max_len a.v6 → prefix_of t ≡ Some (block a n)
length_complete t front a n e h w =
    let whole_text = front ++ 47 ∷ decimal n in
    let small : n < 256 = omega (arith, max_len_small a.v6) in
    ap prefix_of e
    ∙ ap (λ o. at_place o (option_map whole (addr_of whole_text)) (λ i. with_length (addr_of (take i whole_text)) (octet_of (drop (i + 1) whole_text)))) (position-front 47 front (decimal n) (text_lacks a.v6 front a.bits h))
    ∙ ap (λ u. with_length (addr_of u) (octet_of (drop (length front + 1) whole_text))) (take-front 47 front (decimal n))
    ∙ ap (λ u. with_length (addr_of front) (octet_of u)) (drop-front 47 front (decimal n))
    ∙ ap (λ o. with_length o (octet_of (decimal n))) (addr_complete front a h)
    ∙ ap (λ o. with_length (Some a) o) (octet_of-decimal n small)
    ∙ cond-true (nat_le n (max_len a.v6)) (Some (block a n)) None (le-leb n (max_len a.v6) w)

alone_complete : (t : List ℕ) (a : Address) (n : ℕ) → IsAddrText t a → n ≡ max_len a.v6 → prefix_of t ≡ Some (block a n)
alone_complete t a n h e =
    ap (λ o. at_place o (option_map whole (addr_of t)) (λ i. with_length (addr_of (take i t)) (octet_of (drop (i + 1) t)))) (position-lacks 47 t (text_lacks a.v6 t a.bits h))
    ∙ ap (option_map whole) (addr_complete t a h)
    ∙ ap (λ m. Some (block a m)) (sym e)

-- and each of its texts is read as it
pub prefix_complete : (t : List ℕ) (b : Block) → IsPrefixText t b → prefix_of t ≡ Some b
prefix_complete t b (inl r) = length_complete t r.front b.addr b.len r.written r.address r.within
prefix_complete t b (inr h) = alone_complete t b.addr b.len h.0 h.1

written_text : (v6 : Bool) (bits : ℕ) → bits < 2 ^ max_len v6 → IsTextOf v6 (addr_text (address v6 bits)) bits
written_text false bits h = (h, refl)
written_text true bits h = v6_text-reads bits h

-- the text of an address is read as it
pub addr_text-reads : (a : Address) → IsAddress a → addr_of (addr_text a) ≡ Some a
addr_text-reads a h = addr_complete (addr_text a) a (written_text a.v6 a.bits h)

-- the text of a prefix is read as it
pub prefix_text-reads : (b : Block) → IsAddress b.addr → IsPrefix b → prefix_of (prefix_text b) ≡ Some b
prefix_text-reads b h k = length_complete (prefix_text b) (addr_text b.addr) b.addr b.len refl (written_text b.addr.v6 b.addr.bits h) k

-- a text that is read as a MAC address is one of its texts
pub hardware_sound : (t : List ℕ) (m : Mac) → hardware_of t ≡ Some m → IsMac t m.bytes
hardware_sound t m h =
    let p = mapped hardware (mac_of t) m h in
    subst (λ m. IsMac t m.bytes) p.made (mac_sound t p.item p.found)

-- and each of its texts is read as it
pub hardware_complete : (t : List ℕ) (m : Mac) → IsMac t m.bytes → hardware_of t ≡ Some m
hardware_complete t m h = ap (option_map hardware) (mac_complete t m.bytes h)
