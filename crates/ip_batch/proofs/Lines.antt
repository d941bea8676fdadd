-- Lines and the calls that they spell, one after another.
use Rattle.std.proofs.Common.{◌≡◌, ◌≢◌, ◌∙◌, ◌<◌, ◌≤◌, ◌+◌, ◌^◌, ◌==◌, ◌⊎◌, ℕ, zero, suc, List, [], ◌∷◌, ◌++◌, Bool, true, false, not, ◌&&◌, Option, Some, None, length, take, refl, sym, ap, subst, arith, inl, inr, append_assoc}
use Rattle.std.specs.Prelude.{nat_lt, nat_le, codes, All, IfSome, if◌then◌else◌, slice_index, option_map, flat_map, Result, Ok, Err}
use Rattle.std.specs.Char.{is_ascii, is_ascii_graphic}
use Rattle.std.specs.List.{list_all}
use Rattle.std.specs.Str.{bytes_eq, is_utf8, IsAscii, IsUtf8}
use Rattle.std.proofs.lemmas.Bool.{cases_Bool, and_parts, ltb-true, lt-ltb, le-ltb, le-leb, leb-true, ne_eqb}
use Rattle.std.proofs.lemmas.Slice.Eq.{bytes_eq-Decides}
use Rattle.std.proofs.lemmas.Str.{IsUtf8-from_ascii, is_utf8-from_IsUtf8, IsUtf8-from_is_utf8}
use Rattle.std.proofs.lemmas.List.Elements.{All-head, All-tail, All-cons}
use Rattle.addr_text.specs.Parts.{joined}
use Rattle.addr_text.proofs.lemmas.Split.{lacks}
use Rattle.net_model.specs.declared.call.Call.{Call}
use Rattle.net_model.specs.declared.call.Call.TheVariants.{AddLink, DelLink, Up, Down, SetMtu, SetMac, SetBond, SetBridge, Attach, Detach, SetPort, AddAddress, DelAddress, AddRoute, DelRoute, AddRule, DelRule, SetDns}
use Rattle.net_model.specs.declared.link.Kind.{Kind}
use Rattle.net_model.specs.declared.link.Kind.TheVariants.{Ethernet, Bond, Bridge, Vlan, Vrf, Dummy, Veth}
use Rattle.net_search.specs.Ranges.{CallRanges}
use Rattle.ip_batch.specs.Spelling.{Text, spaced, spelling, Spells}
use Rattle.ip_batch.specs.Batch.{is_skipped, Stands, StandFor, IsFirstBad, batch_text}
use Rattle.ip_batch.specs.Pieces.{given, word, onto_first, lines_of}
use Rattle.ip_batch.specs.Reader.{call_like, if_spelled, call_of, before, calls_from, told, batch_of}
use Rattle.ip_batch.specs.declared.fault.BatchFault.TheVariants.{TooLarge}
use Rattle.ip_batch.specs.declared.fault.TheConstants.{MAX_BATCH_BYTES}
use Rattle.ip_batch.proofs.Cuts.{nth, words-spaced}
use Rattle.ip_batch.proofs.Graphic.{graphic, weaken, all-joined, passes_lack, graphic_lacks, within_graphic}
use Rattle.ip_batch.proofs.Rows.{Row, row_of}

-- ---- one line

each_weaker : (p q : Text → Bool) → ((t : Text) → p t ≡ true → q t ≡ true) → (ts : List Text) → list_all p ts ≡ true → list_all q ts ≡ true
each_weaker p q h [] all = refl
each_weaker p q h (t ∷ ts) all =
    let (first, rest) = and_parts (p t) (list_all p ts) all in
    rw (h t first, each_weaker p q h ts rest) refl

graphic_ascii : (c : ℕ) → is_ascii_graphic c ≡ true → is_ascii c ≡ true
graphic_ascii c h = let w = within_graphic c h in lt-ltb c 128 (omega (arith, w.1))

ascii_text : (t : Text) → list_all is_ascii t ≡ true → IsAscii t
ascii_text [] h k = omega arith
ascii_text (b ∷ t) h zero = ltb-true b 128 (and_parts (is_ascii b) (list_all is_ascii t) h).0
ascii_text (b ∷ t) h (suc k) = ascii_text t (and_parts (is_ascii b) (list_all is_ascii t) h).1 k

spaced_utf8 : (ws : List Text) → list_all graphic ws ≡ true → is_utf8 (spaced ws) ≡ true
spaced_utf8 ws h =
    let each = each_weaker graphic (list_all is_ascii) (λ t g. weaken is_ascii_graphic is_ascii graphic_ascii t g) ws h in
    is_utf8-from_IsUtf8 (spaced ws) (IsUtf8-from_ascii (spaced ws) (ascii_text (spaced ws) (all-joined is_ascii 32 refl ws each)))

same_text : (t : Text) → bytes_eq t t ≡ true
same_text t = (bytes_eq-Decides t t).1 refl

row_leads : (call : Call) (r : Row call) → call_like (word (spelling call)) ≡ Some call
row_leads call r =
    ap (λ (t : Text). call_like (word t)) r.is ∙ ap call_like (words-spaced r.words (each_weaker graphic (lacks 32) graphic_lacks r.words r.printable)) ∙ r.leads

row_utf8 : (call : Call) (r : Row call) → is_utf8 (spelling call) ≡ true
row_utf8 call r = ap is_utf8 r.is ∙ spaced_utf8 r.words r.printable

row_read : (call : Call) → Row call → call_of (spelling call) ≡ Some call
unfolding call_of
row_read call r = rw (row_utf8 call r, row_leads call r) (rw (same_text (spelling call)) refl)

-- the spelling of a call is read as the call
pub spelling_read : (call : Call) → CallRanges call → call_of (spelling call) ≡ Some call
spelling_read call r = row_read call (row_of call r)

spelled : (line : Text) (found call : Call) → if_spelled line found ≡ Some call → line ≡ spelling call
spelled line found call h = elim (cases_Bool (bytes_eq (spelling found) line)) [
  | inl is ↦
      let w : Some found ≡ Some call = rw is at h in
      let e : found ≡ call = cc in
      sym ((bytes_eq-Decides (spelling found) line).0 is) ∙ ap spelling e
  | inr other ↦ let w = rw other at h in absurd cc
]

like_spelled : (line : Text) (like : Option Call) (call : Call) → given like (if_spelled line) ≡ Some call → line ≡ spelling call
like_spelled line None call h = absurd cc
like_spelled line (Some found) call h = spelled line found call h

-- a line that is read as a call is its spelling
pub read_spelling : (line : Text) (call : Call) → call_of line ≡ Some call → line ≡ spelling call
unfolding call_of
read_spelling line call h = elim (cases_Bool (is_utf8 line)) [
  | inl is ↦ let w = rw is at h in like_spelled line (call_like (word line)) call w
  | inr other ↦ let w = rw other at h in absurd cc
]

-- it is read as a call exactly where it spells it
pub spells_exact : (line : Text) (call : Call) → Spells line call → call_of line ≡ Some call
spells_exact line call s = ap call_of s.is ∙ spelling_read call s.ranges

-- a line that is read as none spells none
pub spells_none : (line : Text) (call : Call) → call_of line ≡ None → Spells line call → ⊥
spells_none line call none s = let e : None ≡ Some call = sym none ∙ spells_exact line call s in cc

-- ---- lines and their calls

-- a skipped line more
pub stand_skip : (front : List Text) (calls : List Call) (line : Text) → StandFor front calls → is_skipped line ≡ true → StandFor (front ++ line ∷ []) calls
stand_skip [] calls line h skipped = inl (skipped, h)
stand_skip (l ∷ front) calls line h skipped = elim h [
  | inl p ↦ inl (p.0, stand_skip front calls line p.1 skipped)
  | inr q ↦ inr (q.0, q.1, q.2, q.3, stand_skip front q.1 line q.4 skipped)
]

-- a call more
pub stand_call : (front : List Text) (calls : List Call) (line : Text) (call : Call) → StandFor front calls → Spells line call → StandFor (front ++ line ∷ []) (calls ++ call ∷ [])
stand_call [] calls line call h s = inr (call, [], ap (λ (cs : List Call). cs ++ call ∷ []) h, s, refl)
stand_call (l ∷ front) calls line call h s = elim h [
  | inl p ↦ inl (p.0, stand_call front calls line call p.1 s)
  | inr q ↦ inr (q.0, q.1 ++ call ∷ [], ap (λ (cs : List Call). cs ++ call ∷ []) q.2, q.3, stand_call front q.1 line call q.4 s)
]

-- each line stands for a call, or is skipped
pub stand_good : (front : List Text) (calls : List Call) → StandFor front calls → All Stands front
stand_good [] calls h = λ k d lt. absurd (omega arith)
stand_good (l ∷ front) calls h = elim h [
  | inl p ↦ All-cons Stands l front (inl p.0) (stand_good front calls p.1)
  | inr q ↦ All-cons Stands l front (inr (q.0, q.3)) (stand_good front q.1 q.4)
]

-- the line of a call isn't skipped
not_made : (n : Text) (k : Kind) → is_skipped (spelling (AddLink n k)) ≡ false
not_made n (Ethernet m) = refl
not_made n (Bond m) = refl
not_made n Bridge = refl
not_made n (Vlan base id p) = refl
not_made n (Vrf table) = refl
not_made n Dummy = refl
not_made n (Veth peer) = refl

pub not_skipped : (call : Call) → is_skipped (spelling call) ≡ false
not_skipped (AddLink n k) = not_made n k
not_skipped (DelLink n) = refl
not_skipped (Up n) = refl
not_skipped (Down n) = refl
not_skipped (SetMtu n m) = refl
not_skipped (SetMac n m) = refl
not_skipped (SetBond n o) = refl
not_skipped (SetBridge n o) = refl
not_skipped (Attach p c) = refl
not_skipped (Detach p) = refl
not_skipped (SetPort p o) = refl
not_skipped (AddAddress n b) = refl
not_skipped (DelAddress n b) = refl
not_skipped (AddRoute r) = refl
not_skipped (DelRoute r) = refl
not_skipped (AddRule r) = refl
not_skipped (DelRule r) = refl
not_skipped (SetDns d) = refl

spells_not_skipped : (line : Text) (call : Call) → Spells line call → is_skipped line ≡ false
spells_not_skipped line call s = ap is_skipped s.is ∙ not_skipped call

-- lines that stand for calls are read as them
pub stand_read : (n : ℕ) (lines : List Text) (calls : List Call) → StandFor lines calls → calls_from n lines ≡ Ok calls
stand_read n [] calls h = ap (λ (cs : List Call). Ok cs) (sym h)
stand_read n (line ∷ lines) calls h = elim h [
  | inl p ↦ rw p.0 (stand_read (n + 1) lines calls p.1)
  | inr q ↦ rw (spells_not_skipped line q.0 q.3, spells_exact line q.0 q.3, stand_read (n + 1) lines q.1 q.4) (ap (λ (cs : List Call). Ok cs) (sym q.2))
]

-- the first line that stands for none is told
pub good_bad : (n m : ℕ) (front : List Text) (line : Text) (after : List Text) → All Stands front → is_skipped line ≡ false → call_of line ≡ None → m ≡ n + length front → calls_from n (front ++ line ∷ after) ≡ Err m
good_bad n m [] line after good go none e = rw (go, none) (ap (λ (k : ℕ). Err k) (omega (arith, e)))
good_bad n m (l ∷ front) line after good go none e =
    let rest = good_bad (n + 1) m front line after (All-tail Stands l front good) go none (omega (arith, e)) in
    elim (All-head Stands l front good) [
      | inl skipped ↦ rw (skipped, rest) refl
      | inr q ↦ rw (spells_not_skipped l q.0 q.1, spells_exact l q.0 q.1, rest) refl
    ]

-- neither skipped nor read, it stands for none
pub unread_bad : (line : Text) → is_skipped line ≡ false → call_of line ≡ None → Stands line → ⊥
unread_bad line go none (inl skipped) = let e : true ≡ false = sym skipped ∙ go in cc
unread_bad line go none (inr q) = spells_none line q.0 none q.1

-- ---- whole texts

at_least_space : ℕ → Bool
at_least_space b = nat_le 32 b

graphic_space : (c : ℕ) → is_ascii_graphic c ≡ true → at_least_space c ≡ true
unfolding at_least_space
graphic_space c h = let w = within_graphic c h in le-leb 32 c (omega (arith, w.0))

no_end : (b : ℕ) → at_least_space b ≡ true → (b == 10) ≡ false
unfolding at_least_space
no_end b h = let w : 32 ≤ b = leb-true 32 b h in ne_eqb b 10 (omega (arith, w))

-- the line of a call holds no line's end
pub spelling_line : (call : Call) → Row call → lacks 10 (spelling call) ≡ true
unfolding at_least_space
spelling_line call r =
    let each = each_weaker graphic (list_all at_least_space) (λ t g. weaken is_ascii_graphic at_least_space graphic_space t g) r.words r.printable in
    let all = all-joined at_least_space 32 refl r.words each in
    ap (lacks 10) r.is ∙ passes_lack at_least_space 10 no_end (spaced r.words) all

first_more : (b : ℕ) (l : Text) (ls lines : List Text) → lines ≡ l ∷ ls → onto_first b lines ≡ (b ∷ l) ∷ ls
first_more b l ls lines e = ap (onto_first b) e

line_cut : (line rest : Text) → lacks 10 line ≡ true → lines_of (line ++ 10 ∷ rest) ≡ line ∷ lines_of rest
line_cut [] rest h = refl
line_cut (b ∷ line) rest h =
    let (first, more) = and_parts (not (b == 10)) (lacks 10 line) h in
    elim (cases_Bool (b == 10)) [
      | inl is ↦ let w = rw is at first in absurd cc
      | inr not ↦ rw not (first_more b line (lines_of rest) (lines_of (line ++ 10 ∷ rest)) (line_cut line rest more))
    ]

text_first : (call : Call) (calls : List Call) → Row call → lines_of (batch_text (call ∷ calls)) ≡ spelling call ∷ lines_of (batch_text calls)
text_first call calls r = ap lines_of (append_assoc (spelling call) (10 ∷ []) (batch_text calls)) ∙ line_cut (spelling call) (batch_text calls) (spelling_line call r)

-- the text of calls stands for them
pub text_stands : (calls : List Call) → All CallRanges calls → StandFor (lines_of (batch_text calls)) calls
text_stands [] h = refl
text_stands (call ∷ calls) h =
    let r = All-head CallRanges call calls h in
    subst (λ (lines : List Text). StandFor lines (call ∷ calls)) (sym (text_first call calls (row_of call r)))
    (inr (call, calls, refl, record { ranges = r; is = refl }, text_stands calls (All-tail CallRanges call calls h)))

-- a text within the limit is read line by line
pub within_read : (bytes : Text) → length bytes ≤ MAX_BATCH_BYTES → batch_of bytes ≡ told (calls_from 1 (lines_of bytes))
unfolding batch_of
within_read bytes h = rw (le-ltb MAX_BATCH_BYTES (length bytes) h) refl

pub large_read : (bytes : Text) → MAX_BATCH_BYTES < length bytes → batch_of bytes ≡ Err TooLarge
unfolding batch_of
large_read bytes h = rw (lt-ltb MAX_BATCH_BYTES (length bytes) h) refl

-- what is written is read again
pub written_read : (calls : List Call) → All CallRanges calls → length (batch_text calls) ≤ MAX_BATCH_BYTES → batch_of (batch_text calls) ≡ Ok calls
written_read calls h within = within_read (batch_text calls) within ∙ ap told (stand_read 1 (lines_of (batch_text calls)) calls (text_stands calls h))

-- ---- a line as the code reads it

-- a line of UTF-8 is read by its words
pub utf8_line : (line : Text) → IsUtf8 line → call_of line ≡ given (call_like (word line)) (if_spelled line)
unfolding call_of
utf8_line line is = rw (is_utf8-from_IsUtf8 line is) refl

-- a line that is no UTF-8 is read as none
pub no_line : (line : Text) → ¬ (IsUtf8 line) → None ≡ call_of line
unfolding call_of
no_line line not = elim (cases_Bool (is_utf8 line)) [
  | inl is ↦ absurd (not (IsUtf8-from_is_utf8 line is))
  | inr other ↦ rw other refl
]
