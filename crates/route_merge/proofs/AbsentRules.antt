-- The index of what absent entries of rules state.
use Rattle.std.proofs.Common.{◌≡◌, Bool, true, false, ◌&&◌, List, [], ◌∷◌, ◌++◌, Some, None, is_some, if◌then◌else◌, refl, sym, ap, subst, ◌∙◌}
use Rattle.std.specs.List.{list_any}
use Rattle.std.specs.Option.{option_eq}
use Rattle.std.specs.Ordering.{is_eq, bool_cmp, nat_cmp}
use Rattle.std.specs.Cmp.{unsigned_ties, both_tied}
use Rattle.std.specs.Cmp.Lexicographic.{texts_ties}
use Rattle.std.specs.BTreeSet.{BTreeSet, contains, Updates}
use Rattle.net_model.specs.Name.{same_bytes}
use Rattle.net_model.specs.Words.{bool_eq}
use Rattle.net_model.specs.Order.{name_cmp, block_cmp}
use Rattle.net_model.specs.Rule.{RuleParts}
use Rattle.net_model.specs.Valid.{same_block, same_target}
use Rattle.net_model.specs.declared.Target.{Target}
use Rattle.net_model.specs.declared.Target.TheVariants.{Table, Blackhole, Unreachable, Prohibit}
use Rattle.net_model.proofs.lemmas.Ties.{blocks_tie}
use Rattle.net_model.proofs.lemmas.Truth.{and_left, and_right}
use Rattle.document_model.specs.declared.RuleEntry.{RuleEntry}
use Rattle.merge_model.specs.Routes.{agrees, agrees_if, same_number}
use Rattle.merge_model.specs.RuleNumbers.{rule_matches}
use Rattle.route_merge.specs.declared.absent_rules.StatedRule.{StatedRule}
use Rattle.route_merge.specs.AbsentRules.{target_cmp, stated_of, stated_cmp, same_stated, alike, narrowed, HasShapes, HasStated}
use Rattle.route_merge.proofs.SameKeys.{options_tie}
use Rattle.route_merge.proofs.Narrowed.{shape_known, shape_new, passed, noted, matched, one_bit, bit_itself, field_sound, field_whole, field_sound_if, field_whole_if}

each_of : (a b c d e f g h : Bool) → (((((((a && b) && c) && d) && e) && f) && g) && h) ≡ true → (a ≡ true) × (b ≡ true) × (c ≡ true) × (d ≡ true) × (e ≡ true) × (f ≡ true) × (g ≡ true) × (h ≡ true)
each_of a b c d e f g h k =
    let to_g = and_left ((((((a && b) && c) && d) && e) && f) && g) h k in
    let to_f = and_left (((((a && b) && c) && d) && e) && f) g to_g in
    let to_e = and_left ((((a && b) && c) && d) && e) f to_f in
    let to_d = and_left (((a && b) && c) && d) e to_e in
    let to_c = and_left ((a && b) && c) d to_d in
    let to_b = and_left (a && b) c to_c in
    (and_left a b to_b, and_right a b to_b, and_right (a && b) c to_c, and_right ((a && b) && c) d to_d, and_right (((a && b) && c) && d) e to_e, and_right ((((a && b) && c) && d) && e) f to_f, and_right (((((a && b) && c) && d) && e) && f) g to_g, and_right ((((((a && b) && c) && d) && e) && f) && g) h k)

all_of : (a b c d e f g h : Bool) → a ≡ true → b ≡ true → c ≡ true → d ≡ true → e ≡ true → f ≡ true → g ≡ true → h ≡ true → (((((((a && b) && c) && d) && e) && f) && g) && h) ≡ true
all_of a b c d e f g h a_holds b_holds c_holds d_holds e_holds f_holds g_holds h_holds = rw (a_holds, b_holds, c_holds, d_holds, e_holds, f_holds, g_holds, h_holds) refl

-- the same tests, grouped from the right
grouped : (a b c d e f g h : Bool) → (((((((a && b) && c) && d) && e) && f) && g) && h) ≡ (a && (b && (c && (d && (e && (f && (g && h)))))))
grouped true true true true true true g h = refl
grouped true true true true true false g h = refl
grouped true true true true false f g h = refl
grouped true true true false e f g h = refl
grouped true true false d e f g h = refl
grouped true false c d e f g h = refl
grouped false b c d e f g h = refl

pub bools_tie : (a b : Bool) → bool_eq a b ≡ is_eq (bool_cmp a b)
bools_tie true true = refl
bools_tie true false = refl
bools_tie false true = refl
bools_tie false false = refl

targets_tie : (a b : Target) → same_target a b ≡ is_eq (target_cmp a b)
targets_tie (Table a) (Table b) = unsigned_ties a b
targets_tie (Table a) Blackhole = refl
targets_tie (Table a) Unreachable = refl
targets_tie (Table a) Prohibit = refl
targets_tie Blackhole (Table b) = refl
targets_tie Blackhole Blackhole = refl
targets_tie Blackhole Unreachable = refl
targets_tie Blackhole Prohibit = refl
targets_tie Unreachable (Table b) = refl
targets_tie Unreachable Blackhole = refl
targets_tie Unreachable Unreachable = refl
targets_tie Unreachable Prohibit = refl
targets_tie Prohibit (Table b) = refl
targets_tie Prohibit Blackhole = refl
targets_tie Prohibit Unreachable = refl
targets_tie Prohibit Prohibit = refl

abbrev same_fields : StatedRule → StatedRule → Type 0
same_fields a b = (is_some a.priority ≡ is_some b.priority) × (is_some a.v6 ≡ is_some b.v6) × (is_some a.src ≡ is_some b.src) × (is_some a.dst ≡ is_some b.dst) × (is_some a.iif ≡ is_some b.iif) × (is_some a.mark ≡ is_some b.mark) × (is_some a.mask ≡ is_some b.mask) × (is_some a.target ≡ is_some b.target)

fields_of : (a b : StatedRule) → alike a b ≡ true → same_fields a b
fields_of a b h =
    let e = each_of (bool_eq (is_some a.priority) (is_some b.priority)) (bool_eq (is_some a.v6) (is_some b.v6)) (bool_eq (is_some a.src) (is_some b.src)) (bool_eq (is_some a.dst) (is_some b.dst)) (bool_eq (is_some a.iif) (is_some b.iif)) (bool_eq (is_some a.mark) (is_some b.mark)) (bool_eq (is_some a.mask) (is_some b.mask)) (bool_eq (is_some a.target) (is_some b.target)) h in
    (one_bit (is_some a.priority) (is_some b.priority) e.0, one_bit (is_some a.v6) (is_some b.v6) e.1, one_bit (is_some a.src) (is_some b.src) e.2, one_bit (is_some a.dst) (is_some b.dst) e.3, one_bit (is_some a.iif) (is_some b.iif) e.4, one_bit (is_some a.mark) (is_some b.mark) e.5, one_bit (is_some a.mask) (is_some b.mask) e.6, one_bit (is_some a.target) (is_some b.target) e.7)

itself : (a : StatedRule) → alike a a ≡ true
itself a =
    all_of (bool_eq (is_some a.priority) (is_some a.priority)) (bool_eq (is_some a.v6) (is_some a.v6)) (bool_eq (is_some a.src) (is_some a.src)) (bool_eq (is_some a.dst) (is_some a.dst)) (bool_eq (is_some a.iif) (is_some a.iif)) (bool_eq (is_some a.mark) (is_some a.mark)) (bool_eq (is_some a.mask) (is_some a.mask)) (bool_eq (is_some a.target) (is_some a.target))
    (bit_itself (is_some a.priority)) (bit_itself (is_some a.v6)) (bit_itself (is_some a.src)) (bit_itself (is_some a.dst)) (bit_itself (is_some a.iif)) (bit_itself (is_some a.mark)) (bit_itself (is_some a.mask)) (bit_itself (is_some a.target))

congr : (a b q : StatedRule) → alike a b ≡ true → alike a q ≡ alike b q
congr a b q h = let f = fields_of a b h in rw (f.0, f.1, f.2, f.3, f.4, f.5, f.6, f.7) refl

narrows : (a b : StatedRule) (r : RuleParts) → alike a b ≡ true → narrowed a r ≡ narrowed b r
narrows a b r h = let f = fields_of a b h in rw (f.0, f.1, f.2, f.3, f.4, f.5, f.6, f.7) refl

tie : (a b : StatedRule) → same_stated a b ≡ is_eq (stated_cmp a b)
tie a b =
    grouped (option_eq same_number a.priority b.priority) (option_eq bool_eq a.v6 b.v6) (option_eq same_block a.src b.src) (option_eq same_block a.dst b.dst) (option_eq same_bytes a.iif b.iif) (option_eq same_number a.mark b.mark) (option_eq same_number a.mask b.mask) (option_eq same_target a.target b.target)
    ∙ both_tied _ _ _ _ (options_tie same_number nat_cmp unsigned_ties a.priority b.priority)
    (both_tied _ _ _ _ (options_tie bool_eq bool_cmp bools_tie a.v6 b.v6)
    (both_tied _ _ _ _ (options_tie same_block block_cmp blocks_tie a.src b.src)
    (both_tied _ _ _ _ (options_tie same_block block_cmp blocks_tie a.dst b.dst)
    (both_tied _ _ _ _ (options_tie same_bytes name_cmp texts_ties a.iif b.iif)
    (both_tied _ _ _ _ (options_tie same_number nat_cmp unsigned_ties a.mark b.mark)
    (both_tied _ _ _ _ (options_tie same_number nat_cmp unsigned_ties a.mask b.mask) (options_tie same_target target_cmp targets_tie a.target b.target)))))))

whole : (r : RuleParts) (e : RuleEntry) → rule_matches e r ≡ true → same_stated (stated_of e) (narrowed (stated_of e) r) ≡ true
whole r e h =
    let m = each_of (agrees same_number e.priority r.priority) (agrees bool_eq e.v6 r.v6) (agrees_if same_block e.src r.src) (agrees_if same_block e.dst r.dst) (agrees_if same_bytes e.iif r.iif) (agrees same_number e.mark r.mark) (agrees same_number e.mask r.mask) (agrees same_target e.target r.target) h in
    all_of (option_eq same_number e.priority (if is_some e.priority then Some r.priority else None)) (option_eq bool_eq e.v6 (if is_some e.v6 then Some r.v6 else None)) (option_eq same_block e.src (if is_some e.src then r.src else None)) (option_eq same_block e.dst (if is_some e.dst then r.dst else None)) (option_eq same_bytes e.iif (if is_some e.iif then r.iif else None)) (option_eq same_number e.mark (if is_some e.mark then Some r.mark else None)) (option_eq same_number e.mask (if is_some e.mask then Some r.mask else None)) (option_eq same_target e.target (if is_some e.target then Some r.target else None))
    (field_whole same_number e.priority r.priority m.0) (field_whole bool_eq e.v6 r.v6 m.1) (field_whole_if same_block e.src r.src m.2) (field_whole_if same_block e.dst r.dst m.3) (field_whole_if same_bytes e.iif r.iif m.4) (field_whole same_number e.mark r.mark m.5) (field_whole same_number e.mask r.mask m.6) (field_whole same_target e.target r.target m.7)

sound : (r : RuleParts) (e : RuleEntry) (s : StatedRule) → same_stated (stated_of e) (narrowed s r) ≡ true → rule_matches e r ≡ true
sound r e s h =
    let m = each_of (option_eq same_number e.priority (if is_some s.priority then Some r.priority else None)) (option_eq bool_eq e.v6 (if is_some s.v6 then Some r.v6 else None)) (option_eq same_block e.src (if is_some s.src then r.src else None)) (option_eq same_block e.dst (if is_some s.dst then r.dst else None)) (option_eq same_bytes e.iif (if is_some s.iif then r.iif else None)) (option_eq same_number e.mark (if is_some s.mark then Some r.mark else None)) (option_eq same_number e.mask (if is_some s.mask then Some r.mask else None)) (option_eq same_target e.target (if is_some s.target then Some r.target else None)) h in
    all_of (agrees same_number e.priority r.priority) (agrees bool_eq e.v6 r.v6) (agrees_if same_block e.src r.src) (agrees_if same_block e.dst r.dst) (agrees_if same_bytes e.iif r.iif) (agrees same_number e.mark r.mark) (agrees same_number e.mask r.mask) (agrees same_target e.target r.target)
    (field_sound same_number e.priority (is_some s.priority) r.priority m.0) (field_sound bool_eq e.v6 (is_some s.v6) r.v6 m.1) (field_sound_if same_block e.src (is_some s.src) r.src m.2) (field_sound_if same_block e.dst (is_some s.dst) r.dst m.3) (field_sound_if same_bytes e.iif (is_some s.iif) r.iif m.4) (field_sound same_number e.mark (is_some s.mark) r.mark m.5) (field_sound same_number e.mask (is_some s.mask) r.mask m.6) (field_sound same_target e.target (is_some s.target) r.target m.7)

-- nothing is known of no entries
pub none_known : HasShapes [] []
none_known q = refl

-- an entry that isn't absent has no shape
pub shape_passed : (shapes : List StatedRule) (e : RuleEntry) → e.absent ≡ false → (es : List RuleEntry) → HasShapes shapes es → HasShapes shapes (es ++ e ∷ [])
shape_passed shapes e not_it es h = passed (λ (e : RuleEntry). e.absent) stated_of alike same_stated alike (λ q. list_any (λ s. alike s q) shapes) es e not_it h

-- the shapes with that of one more
pub shape_pushed : (shapes new : List StatedRule) (e : RuleEntry) (stated : StatedRule) → stated ≡ stated_of e → e.absent ≡ true → new ≡ shapes ++ stated ∷ [] → (es : List RuleEntry) → HasShapes shapes es → HasShapes new (es ++ e ∷ [])
shape_pushed shapes new e stated is absent more es h q =
    ap (λ (ss : List StatedRule). list_any (λ s. alike s q) ss) more
    ∙ ap (λ t. list_any (λ s. alike s q) (shapes ++ t ∷ [])) is
    ∙ shape_new (λ (e : RuleEntry). e.absent) stated_of alike same_stated shapes es e absent h q

-- or without it
pub shape_kept : (shapes : List StatedRule) (e : RuleEntry) (stated : StatedRule) → stated ≡ stated_of e → e.absent ≡ true → list_any (λ s. alike s stated) shapes ≡ true → (es : List RuleEntry) → HasShapes shapes es → HasShapes shapes (es ++ e ∷ [])
shape_kept shapes e stated is absent known es h q =
    shape_known (λ (e : RuleEntry). e.absent) stated_of alike same_stated shapes es e congr (ap (λ t. list_any (λ s. alike s t) shapes) (sym is) ∙ known) h q

-- the set with one more
pub stated_pushed : (set set' : BTreeSet StatedRule) (e : RuleEntry) (stated : StatedRule) → stated ≡ stated_of e → e.absent ≡ true → Updates stated_cmp set set' stated true → (es : List RuleEntry) → HasStated set es → HasStated set' (es ++ e ∷ [])
stated_pushed set set' e stated is absent u es h = noted (λ (e : RuleEntry). e.absent) stated_of alike same_stated stated_cmp set set' es e tie absent (subst (λ s. Updates stated_cmp set set' s true) is u) h

-- or without it
pub stated_kept : (set : BTreeSet StatedRule) (e : RuleEntry) → e.absent ≡ false → (es : List RuleEntry) → HasStated set es → HasStated set (es ++ e ∷ [])
stated_kept set e not_it es h = passed (λ (e : RuleEntry). e.absent) stated_of alike same_stated same_stated (contains stated_cmp set) es e not_it h

-- what the index finds is what an absent entry matches
pub found : (shapes : List StatedRule) (set : BTreeSet StatedRule) (es : List RuleEntry) (r : RuleParts) → HasShapes shapes es → HasStated set es → list_any (λ s. contains stated_cmp set (narrowed s r)) shapes ≡ list_any (λ e. e.absent && rule_matches e r) es
found shapes set es r shaped held =
    let none : StatedRule = record { priority = None; v6 = None; src = None; dst = None; iif = None; mark = None; mask = None; target = None } in
    let nothing : RuleEntry = record { absent = false; priority = None; v6 = None; src = None; dst = None; iif = None; mark = None; mask = None; target = None } in
    matched (λ (e : RuleEntry). e.absent) stated_of alike same_stated narrowed rule_matches shapes (contains stated_cmp set) es none nothing r
    itself (λ a b. narrows a b r) (whole r) (sound r) shaped held
