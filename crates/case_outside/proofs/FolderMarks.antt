-- What a mark does to the files of a folder in memory.
use Rattle.std.proofs.Common.{rules, ◌≡◌, ◌∙◌, ◌≤◌, ◌<◌, inl, inr, ℕ, zero, suc, Bool, true, false, not, ◌&&◌, ◌||◌, cond, List, [], ◌∷◌, ◌++◌, ◌+◌, ◌-◌, min, length, get_or, set, take, drop, map, reverse, refl, sym, ap, subst, arith}
use Rattle.std.proofs.lemmas.List.{take-append-drop, length-take-le, length-drop, drop-drop, drop_all}
use Rattle.std.proofs.Math.Seq.{take-append_seam}
use Rattle.std.specs.Prelude.{Option, Some, None}
use Rattle.std.specs.List.{filter, find, flat_map, list_any, position, position_or_len}
use Rattle.std.specs.Cmp.{IsTotalOrder}
use Rattle.std.specs.Cmp.Rules.{comparing}
use Rattle.std.specs.Prelude.{nat_lt}
use Rattle.std.proofs.lemmas.List.{reverse-append}
use Rattle.std.proofs.lemmas.List.Sums.{prefix_len_passes}
use Rattle.net_model.specs.Order.{name_cmp}
use borrow.Author.Tests.{ltb-false}
use Rattle.std.proofs.lemmas.Bool.{cases_Bool}
use Rattle.net_model.specs.Name.{same_bytes}
use Rattle.net_model.proofs.lemmas.Found.{one_name, itself}
use Rattle.net_model.proofs.lemmas.Truth.{and_left, and_right, not_true, or_left_false, or_right_false}
use Rattle.host_core.specs.Folders.{File, Files, MaybeMarked, ReadsOn, is_named, is_pending, ends_in_yml, without}
use Rattle.host_core.specs.Stops.{Steps}
use Rattle.case_outside.specs.FolderRecord.{differ, file_of, is_unmarked, is_unmarked_named, listed_of, unmarked, flagged, LeftSince, stops_of, IsMarking, MarksFused}
use Rattle.case_outside.specs.declared.folder.FolderFile.{FolderFile}

abbrev marked : FolderFile → FolderFile
marked f = record f { marked = true }

-- a file of another name, or none of this name
abbrev none_of : List ℕ → List FolderFile → Bool
none_of name files = list_any (λ (b : FolderFile). same_bytes name b.name) files

none_flagged : (name : List ℕ) (files : List FolderFile) → none_of name files ≡ false → flagged false name files ≡ files
none_flagged name [] h = refl
none_flagged name (f ∷ files) h = elim (cases_Bool (same_bytes f.name name)) [
  | inl is ↦
      let turned : same_bytes name f.name ≡ true = subst (λ (n : List ℕ). same_bytes n f.name ≡ true) (one_name f.name name is) (itself f.name) in
      let e : true ≡ false = sym turned ∙ or_left_false (same_bytes name f.name) (none_of name files) h in absurd cc
  | inr other ↦ rw other (ap (λ (fs : List FolderFile). f ∷ fs) (none_flagged name files (or_right_false (same_bytes name f.name) (none_of name files) h)))
]

none_without : (name : List ℕ) (files : List FolderFile) → none_of name files ≡ false → without name (unmarked files) ≡ unmarked files
none_without name [] h = refl
none_without name (f ∷ files) h =
    let rest = none_without name files (or_right_false (same_bytes name f.name) (none_of name files) h) in
    elim (cases_Bool (same_bytes f.name name)) [
      | inl is ↦
          let turned : same_bytes name f.name ≡ true = subst (λ (n : List ℕ). same_bytes n f.name ≡ true) (one_name f.name name is) (itself f.name) in
          let e : true ≡ false = sym turned ∙ or_left_false (same_bytes name f.name) (none_of name files) h in absurd cc
      | inr other ↦ elim (f.marked) as (λ v. without name (map file_of (cond (not v) (f ∷ filter is_unmarked files) (filter is_unmarked files))) ≡ map file_of (cond (not v) (f ∷ filter is_unmarked files) (filter is_unmarked files))) [
        | true ↦ rest
        | false ↦ rw other (ap (λ (fs : Files). file_of f ∷ fs) rest)
      ]
    ]

-- the name of one that stands at a place is among them
named_at : (files : List FolderFile) (place : ℕ) (file : FolderFile) → place < length files → file ≡ get_or files place file → none_of file.name files ≡ false → ⊥
named_at [] place file lt is none = absurd (omega arith)
named_at (f ∷ files) zero file lt is none =
    let same : same_bytes file.name f.name ≡ true = subst (λ (g : FolderFile). same_bytes file.name g.name ≡ true) is (itself file.name) in
    let e : true ≡ false = sym same ∙ or_left_false (same_bytes file.name f.name) (none_of file.name files) none in cc
named_at (f ∷ files) (suc place) file lt is none = named_at files place file (omega arith) is (or_right_false (same_bytes file.name f.name) (none_of file.name files) none)

any_set : (name : List ℕ) (files : List FolderFile) (place : ℕ) (file : FolderFile) → file ≡ get_or files place file → none_of name (set files place (marked file)) ≡ none_of name files
any_set name [] place file is = refl
any_set name (f ∷ files) zero file is = ap (λ (g : FolderFile). same_bytes name g.name || none_of name files) is
any_set name (f ∷ files) (suc place) file is = ap (λ (b : Bool). same_bytes name f.name || b) (any_set name files place file is)

-- the names are as they were
pub differ_set : (files : List FolderFile) (place : ℕ) (file : FolderFile) → file ≡ get_or files place file → differ (set files place (marked file)) ≡ differ files
differ_set [] place file is = refl
differ_set (f ∷ files) zero file is = ap (λ (g : FolderFile). not (none_of g.name files) && differ files) is
differ_set (f ∷ files) (suc place) file is =
    ap (λ (b : Bool). not b && differ (set files place (marked file))) (any_set f.name files place file is)
    ∙ ap (λ (b : Bool). not (none_of f.name files) && b) (differ_set files place file is)

record IsOneMarked (name : List ℕ) (old new : List FolderFile) : Type 0 where
  pub left : unmarked new ≡ without name (unmarked old)
  pub back : flagged false name new ≡ old

module _ (name : List ℕ) where
  head_marked : (f : FolderFile) (files : List FolderFile) → is_unmarked_named name f ≡ true → none_of name files ≡ false → IsOneMarked name (f ∷ files) (marked f ∷ files)
  head_marked f files named none =
      let named_so : same_bytes f.name name ≡ true = and_right (is_unmarked f) (same_bytes f.name name) named in
      let open_so : f.marked ≡ false = not_true f.marked (and_left (is_unmarked f) (same_bytes f.name name) named) in
      let same : record f { marked = false } ≡ f = λ i. record f { marked = sym open_so i } in
      record {
        left =
            sym (none_without name files none)
            ∙ sym (ap (λ (v : Bool). cond (not v) (file_of f ∷ without name (unmarked files)) (without name (unmarked files))) named_so)
            ∙ ap (λ (v : Bool). without name (map file_of (cond (not v) (f ∷ filter is_unmarked files) (filter is_unmarked files)))) (sym open_so);
        back = rw named_so (ap (λ (g : FolderFile). g ∷ flagged false name files) same ∙ ap (λ (fs : List FolderFile). f ∷ fs) (none_flagged name files none));
      }

  tail_marked : (f : FolderFile) (old new : List FolderFile) → same_bytes f.name name ≡ false → IsOneMarked name old new → IsOneMarked name (f ∷ old) (f ∷ new)
  tail_marked f old new other one = record {
    left = elim (f.marked) as (λ v. map file_of (cond (not v) (f ∷ filter is_unmarked new) (filter is_unmarked new)) ≡ without name (map file_of (cond (not v) (f ∷ filter is_unmarked old) (filter is_unmarked old)))) [
      | true ↦ one.left
      | false ↦ rw other (ap (λ (fs : Files). file_of f ∷ fs) one.left)
    ];
    back = rw other (ap (λ (fs : List FolderFile). f ∷ fs) one.back);
  }

-- the file at a place was marked, and it alone
one_marked : (name : List ℕ) (files : List FolderFile) (place : ℕ) (file : FolderFile) → differ files ≡ true → place < length files → file ≡ get_or files place file → is_unmarked_named name file ≡ true
    → IsOneMarked name files (set files place (marked file))
one_marked name [] place file differs lt is named = absurd (omega arith)
one_marked name (f ∷ files) zero file differs lt is named =
    let none = not_true (none_of f.name files) (and_left (not (none_of f.name files)) (differ files) differs) in
    let here : is_unmarked_named name f ≡ true = subst (λ (g : FolderFile). is_unmarked_named name g ≡ true) is named in
    let same_name : f.name ≡ name = one_name f.name name (and_right (is_unmarked f) (same_bytes f.name name) here) in
    subst (λ (g : FolderFile). IsOneMarked name (f ∷ files) (marked g ∷ files)) (sym is)
    (head_marked name f files here (subst (λ (n : List ℕ). none_of n files ≡ false) same_name none))
one_marked name (f ∷ files) (suc place) file differs lt is named =
    let none = not_true (none_of f.name files) (and_left (not (none_of f.name files)) (differ files) differs) in
    let file_named : file.name ≡ name = one_name file.name name (and_right (is_unmarked file) (same_bytes file.name name) named) in
    elim (cases_Bool (same_bytes f.name name)) [
      | inl too ↦
          let one : f.name ≡ file.name = one_name f.name name too ∙ sym file_named in
          absurd (named_at files place file (omega arith) is (subst (λ (n : List ℕ). none_of n files ≡ false) one none))
      | inr other ↦ tail_marked name f files (set files place (marked file)) other (one_marked name files place file (and_right (not (none_of f.name files)) (differ files) differs) (omega arith) is named)
    ]

pub made : (name : List ℕ) (files : List FolderFile) (place : ℕ) (file : FolderFile) (log log_after : List (List ℕ)) → differ files ≡ true → place < length files → file ≡ get_or files place file
    → is_unmarked_named name file ≡ true → log_after ≡ log ++ name ∷ [] → IsMarking name files (set files place (marked file)) log log_after
made name files place file log log_after differs lt is named noted =
    let one = one_marked name files place file differs lt is named in
    record { left = one.left; back = one.back; apart = differ_set files place file is ∙ differs; noted = noted }

-- ---- what is read

-- a file that is marked, or has another name, isn't found
passed : (name : List ℕ) (f : FolderFile) (files : List FolderFile) (found : Option File) → is_unmarked_named name f ≡ false → find (is_named name) (unmarked files) ≡ found → find (is_named name) (unmarked (f ∷ files)) ≡ found
passed name f files found other rest = elim (cases_Bool f.marked) [
  | inl is ↦ subst (λ (v : Bool). find (is_named name) (map file_of (cond (not v) (f ∷ filter is_unmarked files) (filter is_unmarked files))) ≡ found) (sym is) rest
  | inr is ↦
      let unnamed : same_bytes f.name name ≡ false = subst (λ (v : Bool). (not v && same_bytes f.name name) ≡ false) is other in
      subst (λ (v : Bool). find (is_named name) (map file_of (cond (not v) (f ∷ filter is_unmarked files) (filter is_unmarked files))) ≡ found) (sym is)
      (ap (λ (v : Bool). cond v (Some (file_of f)) (find (is_named name) (unmarked files))) unnamed ∙ rest)
]

-- the file at the first place of a name is found by it
pub found_at : (name : List ℕ) (files : List FolderFile) (place : ℕ) (file : FolderFile) → place < length files → file ≡ get_or files place file → is_unmarked_named name file ≡ true
    → ((k : ℕ) → k < place → is_unmarked_named name (get_or files k file) ≡ false) → find (is_named name) (unmarked files) ≡ Some (file_of file)
found_at name [] place file lt is named before = absurd (omega arith)
found_at name (f ∷ files) zero file lt is named before =
    let here : is_unmarked_named name f ≡ true = subst (λ (g : FolderFile). is_unmarked_named name g ≡ true) is named in
    let open_so : f.marked ≡ false = not_true f.marked (and_left (is_unmarked f) (same_bytes f.name name) here) in
    let named_so = and_right (is_unmarked f) (same_bytes f.name name) here in
    subst (λ (g : FolderFile). find (is_named name) (unmarked (f ∷ files)) ≡ Some (file_of g)) (sym is)
    (subst (λ (v : Bool). find (is_named name) (map file_of (cond (not v) (f ∷ filter is_unmarked files) (filter is_unmarked files))) ≡ Some (file_of f)) (sym open_so)
    (ap (λ (v : Bool). cond v (Some (file_of f)) (find (is_named name) (unmarked files))) named_so))
found_at name (f ∷ files) (suc place) file lt is named before =
    let rest = found_at name files place file (omega arith) is named (λ k less. before (suc k) (omega arith)) in
    passed name f files (Some (file_of file)) (before 0 (omega arith)) rest

pub found_nowhere : (name : List ℕ) (files : List FolderFile) → ((k : ℕ) (d : FolderFile) → k < length files → is_unmarked_named name (get_or files k d) ≡ false) → find (is_named name) (unmarked files) ≡ None
found_nowhere name [] none = refl
found_nowhere name (f ∷ files) none = passed name f files None (none 0 f (omega arith)) (found_nowhere name files (λ k d less. none (suc k) d (omega arith)))

-- the buffer's first n bytes are the next of what is left, and n is as many as fit
pub reads_on : (all piece rest : List ℕ) (from room n : ℕ) → from ≤ length all → n ≡ min room (length all - from) → 0 < room
    → piece ≡ take (from + n - from) (drop from all) → ReadsOn (drop from all) (drop (from + n) all) (piece ++ rest) n
reads_on all piece rest from room n within fits some copied =
    let front : piece ≡ take n (drop from all) = copied ∙ ap (λ (k : ℕ). take k (drop from all)) (omega arith) in
    let long : length piece ≡ n = ap length front ∙ length-take-le n (drop from all) (omega (arith, length-drop from all)) in
    let got : take n (piece ++ rest) ≡ piece = ap (λ (k : ℕ). take k (piece ++ rest)) (sym long) ∙ take-append_seam piece rest in
    record {
      taken =
          sym (take-append-drop n (drop from all))
          ∙ ap (λ (xs : List ℕ). xs ++ drop n (drop from all)) (sym (got ∙ front))
          ∙ ap (λ (xs : List ℕ). take n (piece ++ rest) ++ xs) (drop-drop n from all);
      at_end = λ none. drop_all from all (omega arith);
    }

-- ---- the stops

-- a mark is a step to what is left without the file
pub mark_steps : (name : List ℕ) (old new : List FolderFile) (names : List (List ℕ)) → unmarked new ≡ without name (unmarked old) → flagged false name new ≡ old → Steps (MaybeMarked name) (stops_of old names) (stops_of new (name ∷ names))
mark_steps name old new names is_left back = record {
  later = omega arith;
  now = λ s left. (unmarked old, refl, inr (left ∙ is_left));
  since = λ t s le left. elim left [
    | inl now ↦ inr (unmarked old, refl, inr (now ∙ is_left))
    | inr before ↦ inl (subst (λ (fs : List FolderFile). LeftSince t names fs s) back before.1)
  ];
  keeps = λ t s le left. inr (le, subst (λ (fs : List FolderFile). LeftSince t names fs s) (sym back) left);
}

-- nothing was marked
pub same_steps : (name : List ℕ) (files : List FolderFile) (names : List (List ℕ)) → Steps (MaybeMarked name) (stops_of files names) (stops_of files names)
same_steps name files names = record {
  later = omega arith;
  now = λ s left. (s, left, inl refl);
  since = λ t s le left. inl left;
  keeps = λ t s le left. left;
}

reversed_more : (log log_after : List (List ℕ)) (name : List ℕ) → log_after ≡ log ++ name ∷ [] → reverse log_after ≡ name ∷ reverse log
reversed_more log log_after name noted = ap reverse noted ∙ reverse-append log (name ∷ [])

-- the steps of what a mark did, whether its fuse let it be done or not
pub fused_steps : (name : List ℕ) (old new : List FolderFile) (log log_after : List (List ℕ)) (done : Bool) → MarksFused name old new log log_after done
    → Steps (MaybeMarked name) (stops_of old (reverse log)) (stops_of new (reverse log_after))
fused_steps name old new log log_after true m =
    subst (λ (names : List (List ℕ)). Steps (MaybeMarked name) (stops_of old (reverse log)) (stops_of new names)) (sym (reversed_more log log_after name m.noted)) (mark_steps name old new (reverse log) m.left m.back)
fused_steps name old new log log_after false (inr m) =
    subst (λ (names : List (List ℕ)). Steps (MaybeMarked name) (stops_of old (reverse log)) (stops_of new names)) (sym (reversed_more log log_after name m.noted)) (mark_steps name old new (reverse log) m.left m.back)
fused_steps name old new log log_after false (inl m) =
    subst (λ (fs : List FolderFile). Steps (MaybeMarked name) (stops_of old (reverse log)) (stops_of fs (reverse log_after))) (sym m.files)
    (subst (λ (names : List (List ℕ)). Steps (MaybeMarked name) (stops_of old (reverse log)) (stops_of old (reverse names))) (sym m.noted) (same_steps name old (reverse log)))

pub fused_maybe : (name : List ℕ) (old new : List FolderFile) (log log_after : List (List ℕ)) (done : Bool) → MarksFused name old new log log_after done → MaybeMarked name (unmarked old) (unmarked new)
fused_maybe name old new log log_after true m = inr m.left
fused_maybe name old new log log_after false (inl m) = inl (ap unmarked m.files)
fused_maybe name old new log log_after false (inr m) = inr m.left

pub fused_apart : (name : List ℕ) (old new : List FolderFile) (log log_after : List (List ℕ)) (done : Bool) → differ old ≡ true → MarksFused name old new log log_after done → differ new ≡ true
fused_apart name old new log log_after true differs m = m.apart
fused_apart name old new log log_after false differs (inl m) = ap differ m.files ∙ differs
fused_apart name old new log log_after false differs (inr m) = m.apart

-- ---- names

-- where the place of what passes is none, none passes
pub nowhere : {X : Type 0} (p : X → Bool) (xs : List X) → position p xs ≡ None → (k : ℕ) (d : X) → k < length xs → p (get_or xs k d) ≡ false
nowhere p xs none k d lt = elim (cases_Bool (nat_lt (position_or_len p xs) (length xs))) [
  | inl there ↦ let e : Some (position_or_len p xs) ≡ None = subst (λ (v : Bool). cond v (Some (position_or_len p xs)) None ≡ None) there none in absurd cc
  | inr past ↦
      let far : length xs ≤ position_or_len p xs = ltb-false (position_or_len p xs) (length xs) past in
      not_true (p (get_or xs k d)) (prefix_len_passes (λ (x : _). not (p x)) xs k d (omega arith))
]

-- what is listed are the names of the pending files
pub listed_pending : (files : List FolderFile) → flat_map listed_of files ≡ map (λ (f : File). f.name) (filter is_pending (unmarked files))
listed_pending [] = refl
listed_pending (f ∷ files) = elim (cases_Bool f.marked) [
  | inl is ↦ rw is (listed_pending files)
  | inr is ↦ elim (cases_Bool (ends_in_yml f.name)) [
    | inl ends ↦ rw (is, ends) (ap (λ (ns : List (List ℕ)). f.name ∷ ns) (listed_pending files))
    | inr other ↦ rw (is, other) (listed_pending files)
  ]
]

pub name_cmp_total : IsTotalOrder name_cmp
name_cmp_total = search (comparing, rules)
