-- The index of what absent entries of routes state.
use Rattle.std.proofs.Common.{◌≡◌, Bool, true, false, ◌&&◌, List, [], ◌∷◌, ◌++◌, Some, None, is_some, if◌then◌else◌, refl, sym, ap, subst, ◌∙◌}
use Rattle.std.specs.List.{list_any}
use Rattle.std.specs.Option.{option_eq}
use Rattle.std.specs.Ordering.{is_eq, nat_cmp}
use Rattle.std.specs.Cmp.{unsigned_ties, both_tied}
use Rattle.std.specs.Cmp.Lexicographic.{texts_ties}
use Rattle.std.specs.BTreeSet.{BTreeSet, contains, Updates}
use Rattle.net_model.specs.Name.{same_bytes}
use Rattle.net_model.specs.Words.{bool_eq}
use Rattle.net_model.specs.Order.{name_cmp, address_cmp, block_cmp}
use Rattle.net_model.specs.Valid.{same_address, same_block}
use Rattle.net_model.specs.declared.Route.{Route}
use Rattle.net_model.proofs.lemmas.Ties.{addresses_tie, blocks_tie}
use Rattle.net_model.proofs.lemmas.Truth.{and_left, and_right}
use Rattle.document_model.specs.declared.RouteEntry.{RouteEntry}
use Rattle.merge_model.specs.Routes.{agrees, agrees_if, same_number, route_matches, is_route_absent}
use Rattle.route_merge.specs.declared.absent_routes.StatedRoute.{StatedRoute}
use Rattle.route_merge.specs.AbsentRoutes.{stated_of, stated_cmp, same_stated, alike, narrowed, HasShapes, HasStated}
use Rattle.route_merge.proofs.SameKeys.{five, options_tie}
use Rattle.route_merge.proofs.Narrowed.{shape_known, shape_new, passed, noted, matched, one_bit, bit_itself, field_sound, field_whole, field_sound_if, field_whole_if}

each_of : (a b c d e : Bool) → ((((a && b) && c) && d) && e) ≡ true → (a ≡ true) × (b ≡ true) × (c ≡ true) × (d ≡ true) × (e ≡ true)
each_of a b c d e h =
    let four = and_left (((a && b) && c) && d) e h in
    let three = and_left ((a && b) && c) d four in
    let two = and_left (a && b) c three in
    (and_left a b two, and_right a b two, and_right (a && b) c three, and_right ((a && b) && c) d four, and_right (((a && b) && c) && d) e h)

all_of : (a b c d e : Bool) → a ≡ true → b ≡ true → c ≡ true → d ≡ true → e ≡ true → ((((a && b) && c) && d) && e) ≡ true
all_of a b c d e p q r s t = rw (p, q, r, s, t) refl

abbrev same_fields : StatedRoute → StatedRoute → Type 0
same_fields a b = (is_some a.dest ≡ is_some b.dest) × (is_some a.dev ≡ is_some b.dev) × (is_some a.gateway ≡ is_some b.gateway) × (is_some a.metric ≡ is_some b.metric) × (is_some a.table ≡ is_some b.table)

fields_of : (a b : StatedRoute) → alike a b ≡ true → same_fields a b
fields_of a b h =
    let e = each_of (bool_eq (is_some a.dest) (is_some b.dest)) (bool_eq (is_some a.dev) (is_some b.dev)) (bool_eq (is_some a.gateway) (is_some b.gateway)) (bool_eq (is_some a.metric) (is_some b.metric)) (bool_eq (is_some a.table) (is_some b.table)) h in
    (one_bit (is_some a.dest) (is_some b.dest) e.0, one_bit (is_some a.dev) (is_some b.dev) e.1, one_bit (is_some a.gateway) (is_some b.gateway) e.2, one_bit (is_some a.metric) (is_some b.metric) e.3, one_bit (is_some a.table) (is_some b.table) e.4)

itself : (a : StatedRoute) → alike a a ≡ true
itself a =
    all_of (bool_eq (is_some a.dest) (is_some a.dest)) (bool_eq (is_some a.dev) (is_some a.dev)) (bool_eq (is_some a.gateway) (is_some a.gateway)) (bool_eq (is_some a.metric) (is_some a.metric)) (bool_eq (is_some a.table) (is_some a.table))
    (bit_itself (is_some a.dest)) (bit_itself (is_some a.dev)) (bit_itself (is_some a.gateway)) (bit_itself (is_some a.metric)) (bit_itself (is_some a.table))

congr : (a b q : StatedRoute) → alike a b ≡ true → alike a q ≡ alike b q
congr a b q h = let f = fields_of a b h in rw (f.0, f.1, f.2, f.3, f.4) refl

narrows : (a b : StatedRoute) (r : Route) → alike a b ≡ true → narrowed a r ≡ narrowed b r
narrows a b r h = let f = fields_of a b h in rw (f.0, f.1, f.2, f.3, f.4) refl

tie : (a b : StatedRoute) → same_stated a b ≡ is_eq (stated_cmp a b)
tie a b =
    five (option_eq same_block a.dest b.dest) (option_eq same_bytes a.dev b.dev) (option_eq same_address a.gateway b.gateway) (option_eq same_number a.metric b.metric) (option_eq same_number a.table b.table)
    ∙ both_tied _ _ _ _ (options_tie same_block block_cmp blocks_tie a.dest b.dest)
    (both_tied _ _ _ _ (options_tie same_bytes name_cmp texts_ties a.dev b.dev)
    (both_tied _ _ _ _ (options_tie same_address address_cmp addresses_tie a.gateway b.gateway)
    (both_tied _ _ _ _ (options_tie same_number nat_cmp unsigned_ties a.metric b.metric) (options_tie same_number nat_cmp unsigned_ties a.table b.table))))

whole : (r : Route) (e : RouteEntry) → route_matches e r ≡ true → same_stated (stated_of e) (narrowed (stated_of e) r) ≡ true
whole r e h =
    let m = each_of (agrees same_block e.dest r.dest) (agrees same_bytes e.dev r.dev) (agrees_if same_address e.gateway r.gateway) (agrees same_number e.metric r.metric) (agrees same_number e.table r.table) h in
    all_of (option_eq same_block e.dest (if is_some e.dest then Some r.dest else None)) (option_eq same_bytes e.dev (if is_some e.dev then Some r.dev else None)) (option_eq same_address e.gateway (if is_some e.gateway then r.gateway else None))
    (option_eq same_number e.metric (if is_some e.metric then Some r.metric else None)) (option_eq same_number e.table (if is_some e.table then Some r.table else None))
    (field_whole same_block e.dest r.dest m.0) (field_whole same_bytes e.dev r.dev m.1) (field_whole_if same_address e.gateway r.gateway m.2) (field_whole same_number e.metric r.metric m.3) (field_whole same_number e.table r.table m.4)

sound : (r : Route) (e : RouteEntry) (s : StatedRoute) → same_stated (stated_of e) (narrowed s r) ≡ true → route_matches e r ≡ true
sound r e s h =
    let m = each_of (option_eq same_block e.dest (if is_some s.dest then Some r.dest else None)) (option_eq same_bytes e.dev (if is_some s.dev then Some r.dev else None)) (option_eq same_address e.gateway (if is_some s.gateway then r.gateway else None))
    (option_eq same_number e.metric (if is_some s.metric then Some r.metric else None)) (option_eq same_number e.table (if is_some s.table then Some r.table else None)) h in
    all_of (agrees same_block e.dest r.dest) (agrees same_bytes e.dev r.dev) (agrees_if same_address e.gateway r.gateway) (agrees same_number e.metric r.metric) (agrees same_number e.table r.table)
    (field_sound same_block e.dest (is_some s.dest) r.dest m.0) (field_sound same_bytes e.dev (is_some s.dev) r.dev m.1) (field_sound_if same_address e.gateway (is_some s.gateway) r.gateway m.2) (field_sound same_number e.metric (is_some s.metric) r.metric m.3) (field_sound same_number e.table (is_some s.table) r.table m.4)

-- nothing is known of no entries
pub none_known : HasShapes [] []
none_known q = refl

-- an entry that isn't absent has no shape
pub shape_passed : (shapes : List StatedRoute) (e : RouteEntry) → e.absent ≡ false → (es : List RouteEntry) → HasShapes shapes es → HasShapes shapes (es ++ e ∷ [])
shape_passed shapes e not_it es h = passed (λ (e : RouteEntry). e.absent) stated_of alike same_stated alike (λ q. list_any (λ s. alike s q) shapes) es e not_it h

-- the shapes with that of one more
pub shape_pushed : (shapes new : List StatedRoute) (e : RouteEntry) (stated : StatedRoute) → stated ≡ stated_of e → e.absent ≡ true → new ≡ shapes ++ stated ∷ [] → (es : List RouteEntry) → HasShapes shapes es → HasShapes new (es ++ e ∷ [])
shape_pushed shapes new e stated is absent more es h q =
    ap (λ (ss : List StatedRoute). list_any (λ s. alike s q) ss) more
    ∙ ap (λ t. list_any (λ s. alike s q) (shapes ++ t ∷ [])) is
    ∙ shape_new (λ (e : RouteEntry). e.absent) stated_of alike same_stated shapes es e absent h q

-- or without it
pub shape_kept : (shapes : List StatedRoute) (e : RouteEntry) (stated : StatedRoute) → stated ≡ stated_of e → e.absent ≡ true → list_any (λ s. alike s stated) shapes ≡ true → (es : List RouteEntry) → HasShapes shapes es → HasShapes shapes (es ++ e ∷ [])
shape_kept shapes e stated is absent known es h q =
    shape_known (λ (e : RouteEntry). e.absent) stated_of alike same_stated shapes es e congr (ap (λ t. list_any (λ s. alike s t) shapes) (sym is) ∙ known) h q

-- the set with one more
pub stated_pushed : (set set' : BTreeSet StatedRoute) (e : RouteEntry) (stated : StatedRoute) → stated ≡ stated_of e → e.absent ≡ true → Updates stated_cmp set set' stated true → (es : List RouteEntry) → HasStated set es → HasStated set' (es ++ e ∷ [])
stated_pushed set set' e stated is absent u es h = noted (λ (e : RouteEntry). e.absent) stated_of alike same_stated stated_cmp set set' es e tie absent (subst (λ s. Updates stated_cmp set set' s true) is u) h

-- or without it
pub stated_kept : (set : BTreeSet StatedRoute) (e : RouteEntry) → e.absent ≡ false → (es : List RouteEntry) → HasStated set es → HasStated set (es ++ e ∷ [])
stated_kept set e not_it es h = passed (λ (e : RouteEntry). e.absent) stated_of alike same_stated same_stated (contains stated_cmp set) es e not_it h

-- what the index finds is what an absent entry matches
pub found : (shapes : List StatedRoute) (set : BTreeSet StatedRoute) (es : List RouteEntry) (r : Route) → HasShapes shapes es → HasStated set es → list_any (λ s. contains stated_cmp set (narrowed s r)) shapes ≡ is_route_absent es r
found shapes set es r shaped held =
    let none : StatedRoute = record { dest = None; dev = None; gateway = None; metric = None; table = None } in
    let nothing : RouteEntry = record { absent = false; dest = None; dev = None; gateway = None; metric = None; table = None } in
    matched (λ (e : RouteEntry). e.absent) stated_of alike same_stated narrowed route_matches shapes (contains stated_cmp set) es none nothing r
    itself (λ a b. narrows a b r) (whole r) (sound r) shaped held
