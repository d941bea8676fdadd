-- Reading entries one after the other, as a loop does.
use Rattle.std.proofs.Common.{◌≡◌, ◌∙◌, ◌++◌, ◌∷◌, ◌-◌, ◌<◌, ◌+◌, ℕ, suc, [], List, Result, Ok, Err, refl, sym, ap, append_assoc, arith}
use Rattle.std.proofs.lemmas.List.{append-nil}
use Rattle.yaml_read.specs.declared.stop.Why.{Why}
use Rattle.yaml_read.specs.declared.stop.Stop.{Stop}
use Rattle.yaml_read.specs.declared.stop.Stop.TheVariants.{Memory, Because}
use Rattle.yaml_read.specs.declared.fault.YamlFault.{YamlFault}
use Rattle.yaml_read.specs.declared.fault.YamlFault.TheVariants.{NotUtf8, Unsupported, Malformed, DuplicateKey, TooDeep, TooLarge, OutOfMemory}
use Rattle.yaml_read.specs.Keys.{◌>>=◌}
use Rattle.yaml_read.specs.Seen.{Fails, Refuses, Names}

-- one turn less is left
pub turn : (n i : ℕ) → i < n → n - i ≡ suc (n - (i + 1))
turn n i lt = omega arith

-- no turn is left
pub no_turn : (n : ℕ) → n - n ≡ 0
no_turn n = omega arith

-- what was read before, in front of what is still read
abbrev pub behind_front : {A B E : Type 0} → List A → Result (List A × B) E → Result (List A × B) E
behind_front front read = read >>= (λ x. Ok (front ++ x.0, x.1))

-- the rest behind one more
abbrev pub one_more : {A B E : Type 0} → A → Result (List A × B) E → Result (List A × B) E
one_more a rest = rest >>= (λ x. Ok (a ∷ x.0, x.1))

-- one more was read
pub behind_more : {A B E : Type 0} (front : List A) (a : A) (rest : Result (List A × B) E) → behind_front front (one_more a rest) ≡ behind_front (front ++ a ∷ []) rest
behind_more front a (Ok x) = ap (λ xs. Ok (xs, x.1)) (sym (append_assoc front (a ∷ []) x.0))
behind_more front a (Err e) = refl

-- a failure goes through
pub Fails-bind : {A B : Type 0} (e : Stop) (r : Result A Why) (f : A → Result B Why) → Fails e r → Fails e (r >>= f)
Fails-bind Memory r f h = tt
Fails-bind (Because w) r f h = ap (λ x. x >>= f) h

pub Fails-same : {A : Type 0} (e : Stop) (r s : Result A Why) → r ≡ s → Fails e r → Fails e s
Fails-same Memory r s same h = tt
Fails-same (Because w) r s same h = sym same ∙ h

pub Refuses-bind : {A B : Type 0} (e : YamlFault) (r : Result A YamlFault) (f : A → Result B YamlFault) → Refuses e r → Refuses e (r >>= f)
Refuses-bind (NotUtf8 n) r f h = ap (λ x. x >>= f) h
Refuses-bind (Unsupported n) r f h = ap (λ x. x >>= f) h
Refuses-bind (Malformed n) r f h = ap (λ x. x >>= f) h
Refuses-bind (DuplicateKey n) r f h = ap (λ x. x >>= f) h
Refuses-bind (TooDeep n) r f h = ap (λ x. x >>= f) h
Refuses-bind TooLarge r f h = ap (λ x. x >>= f) h
Refuses-bind OutOfMemory r f h = tt

pub Refuses-same : {A : Type 0} (e : YamlFault) (r s : Result A YamlFault) → r ≡ s → Refuses e r → Refuses e s
Refuses-same (NotUtf8 n) r s same h = sym same ∙ h
Refuses-same (Unsupported n) r s same h = sym same ∙ h
Refuses-same (Malformed n) r s same h = sym same ∙ h
Refuses-same (DuplicateKey n) r s same h = sym same ∙ h
Refuses-same (TooDeep n) r s same h = sym same ∙ h
Refuses-same TooLarge r s same h = sym same ∙ h
Refuses-same OutOfMemory r s same h = tt

-- a fault that was named is the one of a reading
pub Refuses-named : {A : Type 0} (e f : YamlFault) (r : Result A YamlFault) → Names e f → r ≡ Err f → Refuses e r
Refuses-named (NotUtf8 n) f r named is = is ∙ ap (λ x. Err x) (sym named)
Refuses-named (Unsupported n) f r named is = is ∙ ap (λ x. Err x) (sym named)
Refuses-named (Malformed n) f r named is = is ∙ ap (λ x. Err x) (sym named)
Refuses-named (DuplicateKey n) f r named is = is ∙ ap (λ x. Err x) (sym named)
Refuses-named (TooDeep n) f r named is = is ∙ ap (λ x. Err x) (sym named)
Refuses-named TooLarge f r named is = is ∙ ap (λ x. Err x) (sym named)
Refuses-named OutOfMemory f r named is = tt

-- behind what was read: the rest failed
pub fails_behind : {A B : Type 0} (e : Stop) (front : List A) (now total : Result (List A × B) Why) → behind_front front now ≡ total → Fails e now → Fails e total
fails_behind e front now total so_far h = Fails-same e _ total so_far (Fails-bind e now (λ x. Ok (front ++ x.0, x.1)) h)

pub refuses_behind : {A B : Type 0} (e : YamlFault) (front : List A) (now total : Result (List A × B) YamlFault) → behind_front front now ≡ total → Refuses e now → Refuses e total
refuses_behind e front now total so_far h = Refuses-same e _ total so_far (Refuses-bind e now (λ x. Ok (front ++ x.0, x.1)) h)

-- nothing more is read
pub ends_behind : {A B E : Type 0} (front : List A) (b : B) (now total : Result (List A × B) E) → behind_front front now ≡ total → now ≡ Ok ([], b) → total ≡ Ok (front, b)
ends_behind front b now total so_far is = sym so_far ∙ (ap (behind_front front) is ∙ ap (λ xs. Ok (xs, b)) (append-nil front))

-- one more is read
pub goes_behind : {A B E : Type 0} (front : List A) (a : A) (now rest total : Result (List A × B) E) → behind_front front now ≡ total → now ≡ one_more a rest → behind_front (front ++ a ∷ []) rest ≡ total
goes_behind front a now rest total so_far is = sym (behind_more front a rest) ∙ (sym (ap (behind_front front) is) ∙ so_far)
