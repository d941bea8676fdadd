-- Steps and expressions are read as what their texts spell.
use Rattle.std.proofs.Common.{◌≡◌, ◌∙◌, ℕ, zero, suc, Bool, true, false, cond, ◌==◌, ◌||◌, List, [], ◌∷◌, ◌++◌, replicate, Option, Some, None, option_and_then, refl, sym, ap, subst}
use Rattle.std.specs.List.{list_all}
use Rattle.std.proofs.lemmas.Bool.{and_parts, and_from, false≢true}
use Rattle.yaml_plain.specs.Bytes.{space, skip_spaces}
use Rattle.yaml_plain.specs.Plain.{with_front}
use Rattle.policy_model.specs.Keys.{Text, is_key, dotted, capture_word}
use Rattle.policy_model.specs.Grammar.{IsSpaced, IsPath, sign, SpellsStep, bar, SpellsSteps, SpellsStart, SpellsFrom, Spells}
use Rattle.policy_model.specs.Reading.{trimmed, between, path_of, operand_of, is_path_byte, path_split, step_from, signed, step_of, starting, start_of, and_step, steps_of, from, begun, parted, expression_of}
use Rattle.policy_model.specs.declared.expression.Operand.{Operand}
use Rattle.policy_model.specs.declared.expression.Verb.{Verb}
use Rattle.policy_model.specs.declared.expression.Verb.TheVariants.{Keep, Set}
use Rattle.policy_model.specs.declared.expression.Step.{Step}
use Rattle.policy_model.specs.declared.expression.Expression.{Expression}
use Rattle.policy_grammar.proofs.Options.{none_if}
use Rattle.policy_grammar.proofs.Bytes.{all_behind, is_space, all_spaces}
use Rattle.policy_grammar.proofs.Spaces.{skip_run, skip_stays, IsBare, ends_with, begins_append, trimmed_inner}
use Rattle.policy_grammar.proofs.Parts.{cons_some}
use Rattle.policy_grammar.proofs.Operands.{IsPathOf, path_sound}
use Rattle.policy_grammar.proofs.Sound.{step, regroup, expression}
use Rattle.policy_grammar.proofs.Runs.{Runs, runs_append, runs_plain, part_ends, part_cut}
use Rattle.policy_grammar.proofs.Paths.{path_complete, dotted_bytes, path_bare}
use Rattle.policy_grammar.proofs.Written.{capture_same, operand_complete, operand_bare, path_runs, operand_runs}

-- ---- the text of a step between the spaces around it

abbrev behind_path : ℕ → Verb → ℕ → Text → Text
behind_path m verb k operand = replicate m space ++ (sign verb ++ (replicate k space ++ operand))

abbrev step_text : List Text → ℕ → Verb → ℕ → Text → Text
step_text keys m verb k operand = dotted keys ++ behind_path m verb k operand

step_bare : (keys : List Text) (m : ℕ) (verb : Verb) (k : ℕ) (operand : Text) → IsPath keys → IsBare operand → IsBare (step_text keys m verb k operand)
step_bare keys m verb k operand h g =
    let path = path_bare keys h in (
      begins_append (dotted keys) (behind_path m verb k operand) path.1.0 ∙ path.0,
      ends_with (dotted keys) (behind_path m verb k operand)
          (ends_with (replicate m space) (sign verb ++ (replicate k space ++ operand))
          (ends_with (sign verb) (replicate k space ++ operand)
          (ends_with (replicate k space) operand g.1))),
    )

abbrev text_of : (t : Text) (s : Step) → SpellsStep t s → Text
text_of t s h = step_text s.path h.spaced_path.1 s.verb h.spaced_operand.0 h.operand

step_trimmed : (t : Text) (s : Step) (h : SpellsStep t s) → trimmed t ≡ text_of t s h
step_trimmed t s h =
    let a = replicate h.spaced_path.0 space in
    let m = replicate h.spaced_path.1 space in
    let k = replicate h.spaced_operand.0 space in
    let z = replicate h.spaced_operand.1 space in
    ap trimmed
    (h.written
    ∙ ap (λ (x : Text). x ++ sign s.verb ++ h.right) h.spaced_path.2
    ∙ ap (λ (x : Text). (a ++ dotted s.path ++ m) ++ sign s.verb ++ x) h.spaced_operand.2
    ∙ sym (regroup a (dotted s.path) m (sign s.verb) k h.operand z))
    ∙ trimmed_inner h.spaced_path.0 h.spaced_operand.1 (text_of t s h) (step_bare s.path h.spaced_path.1 s.verb h.spaced_operand.0 h.operand h.path (operand_bare h.operand s.operand h.is_operand))

-- ---- a step is read

split_run : (path rest : Text) → list_all is_path_byte path ≡ true → path_split rest ≡ ([], rest) → path_split (path ++ rest) ≡ (path, rest)
split_run [] rest all stops = stops
split_run (b ∷ bs) rest all stops =
    let both = and_parts (is_path_byte b) (list_all is_path_byte bs) all in
    ap (λ (v : Bool). cond v (with_front b (path_split (bs ++ rest))) ([], b ∷ (bs ++ rest))) both.0 ∙ ap (with_front b) (split_run bs rest both.1 stops)

sign_stops : (m : ℕ) (verb : Verb) (x : Text) → path_split (replicate m space ++ (sign verb ++ x)) ≡ ([], replicate m space ++ (sign verb ++ x))
sign_stops zero Keep x = refl
sign_stops zero Set x = refl
sign_stops (suc m) verb x = refl

signed_reads : (keys : List Text) (m : ℕ) (verb : Verb) (k : ℕ) (text : Text) (operand : Operand) → IsBare text → operand_of text ≡ Some operand
    → signed (Some keys) (skip_spaces (behind_path m verb k text)) ≡ Some (step keys verb operand)
signed_reads keys m Keep k text operand bare is =
    ap (signed (Some keys)) (skip_run m (sign Keep ++ (replicate k space ++ text)))
    ∙ ap (λ (x : Text). step_from (Some keys) Keep (operand_of x)) (skip_run k text ∙ skip_stays text bare.0)
    ∙ ap (step_from (Some keys) Keep) is
signed_reads keys m Set k text operand bare is =
    ap (signed (Some keys)) (skip_run m (sign Set ++ (replicate k space ++ text)))
    ∙ ap (λ (x : Text). step_from (Some keys) Set (operand_of x)) (skip_run k text ∙ skip_stays text bare.0)
    ∙ ap (step_from (Some keys) Set) is

abbrev split_step : Text × Text → Option Step
split_step parts = signed (path_of parts.0) (skip_spaces parts.1)

-- a step is read as the one that its text spells
step_complete : (t : Text) (s : Step) → SpellsStep t s → step_of t ≡ Some s
unfolding step_of
step_complete t s h =
    let rest = behind_path h.spaced_path.1 s.verb h.spaced_operand.0 h.operand in
    ap (λ (x : Text). split_step (path_split x)) (step_trimmed t s h)
    ∙ ap split_step (split_run (dotted s.path) rest (dotted_bytes s.path h.path.1) (sign_stops h.spaced_path.1 s.verb (replicate h.spaced_operand.0 space ++ h.operand)))
    ∙ ap (λ (o : Option (List Text)). signed o (skip_spaces rest)) (path_complete s.path h.path)
    ∙ signed_reads s.path h.spaced_path.1 s.verb h.spaced_operand.0 h.operand s.operand (operand_bare h.operand s.operand h.is_operand) (operand_complete h.operand s.operand h.is_operand)

-- ---- a step is no start

sign_apart : (verb : Verb) (x : Text) → list_all is_path_byte (sign verb ++ x) ≡ true → ⊥
sign_apart Keep x all = false≢true all
sign_apart Set x all = false≢true all

step_no_path : (keys : List Text) (m : ℕ) (verb : Verb) (k : ℕ) (operand : Text) → path_of (step_text keys m verb k operand) ≡ None
step_no_path keys m verb k operand =
    none_if (path_of (step_text keys m verb k operand)) (IsPathOf (step_text keys m verb k operand)) (path_sound (step_text keys m verb k operand))
    (λ found h. sign_apart verb (replicate k space ++ operand)
    (all_behind is_path_byte (replicate m space) (sign verb ++ (replicate k space ++ operand))
    (all_behind is_path_byte (dotted keys) (behind_path m verb k operand) (ap (list_all is_path_byte) h.0 ∙ dotted_bytes found h.1.1))))

step_no_start : (t : Text) (s : Step) → SpellsStep t s → start_of t ≡ None
unfolding start_of
step_no_start t s h =
    ap (λ (x : Text). option_and_then starting (path_of x)) (step_trimmed t s h)
    ∙ ap (option_and_then starting) (step_no_path s.path h.spaced_path.1 s.verb h.spaced_operand.0 h.operand)

-- ---- a start is read

abbrev start_keys : Text → List Text
start_keys name = capture_word ∷ name ∷ []

start_path : (name t : Text) → SpellsStart name t → IsPath (start_keys name)
start_path name t h = (cons_some capture_word (name ∷ []), and_from (is_key name) true h.1 refl)

start_complete : (name t : Text) → SpellsStart name t → start_of t ≡ Some name
unfolding start_of
start_complete name t h =
    let path = start_path name t h in
    ap (λ (x : Text). option_and_then starting (path_of x)) (ap trimmed h.0.2 ∙ trimmed_inner h.0.0 h.0.1 (dotted (start_keys name)) (path_bare (start_keys name) path))
    ∙ ap (option_and_then starting) (path_complete (start_keys name) path)
    ∙ ap (λ (v : Bool). cond v (Some name) None) capture_same

-- ---- no bar parts a step or a start

abbrev Unparted : Text → Type 0
Unparted t = Runs bar false t false

joined : (x y : Text) → Unparted x → Unparted y → Unparted (x ++ y)
joined x y h g = runs_append bar false false false x y h g

spaces_run : (n : ℕ) → Unparted (replicate n space)
spaces_run n = runs_plain is_space bar refl refl (replicate n space) (all_spaces n)

spaced_runs : (t inner : Text) → IsSpaced t inner → Unparted inner → Unparted t
spaced_runs t inner h g =
    subst Unparted (sym h.2)
    (joined (replicate h.0 space ++ inner) (replicate h.1 space) (joined (replicate h.0 space) inner (spaces_run h.0) g) (spaces_run h.1))

abbrev is_sign_byte : ℕ → Bool
is_sign_byte b = (b == 0x3D) || (b == 0x3A)

sign_runs : (verb : Verb) → Unparted (sign verb)
sign_runs Keep = runs_plain is_sign_byte bar refl refl (sign Keep) refl
sign_runs Set = runs_plain is_sign_byte bar refl refl (sign Set) refl

step_runs : (t : Text) (s : Step) → SpellsStep t s → Unparted t
step_runs t s h =
    subst Unparted (sym h.written)
    (joined (h.left ++ sign s.verb) h.right
    (joined h.left (sign s.verb) (spaced_runs h.left (dotted s.path) h.spaced_path (path_runs s.path h.path.1)) (sign_runs s.verb))
    (spaced_runs h.right h.operand h.spaced_operand (operand_runs h.operand s.operand h.is_operand)))

start_runs : (name t : Text) → SpellsStart name t → Unparted t
start_runs name t h = spaced_runs t (dotted (start_keys name)) h.0 (path_runs (start_keys name) (start_path name t h).1)

-- ---- expressions

-- the parts of a text of steps, of which the first is no start
record IsCut (ss : List Step) (t : Text) : Type 0 where
  pub part : Text
  pub parts : List Text
  pub cut : between bar false t ≡ part ∷ parts
  pub no_start : start_of part ≡ None
  pub reads : steps_of (part ∷ parts) ≡ Some ss

steps_cut : (ss : List Step) (t : Text) → SpellsSteps ss t → IsCut ss t
steps_cut [] t h = absurd h
steps_cut (s ∷ []) t h =
    record { part = t; parts = []; cut = part_ends bar t (step_runs t s h); no_start = step_no_start t s h; reads = ap (λ (o : Option Step). and_step o (Some [])) (step_complete t s h) }
steps_cut (s ∷ u ∷ us) t h =
    let rest = steps_cut (u ∷ us) h.rest h.is_rest in
    record {
      part = h.first;
      parts = rest.part ∷ rest.parts;
      cut = ap (between bar false) h.written ∙ part_cut bar h.first h.rest (step_runs h.first s h.is_first) ∙ ap (λ (ps : List Text). h.first ∷ ps) rest.cut;
      no_start = step_no_start h.first s h.is_first;
      reads = ap (λ (o : Option Step). and_step o (steps_of (rest.part ∷ rest.parts))) (step_complete h.first s h.is_first) ∙ ap (and_step (Some s)) rest.reads;
    }

from_complete : (start : Option Text) (ss : List Step) (t : Text) → SpellsFrom start ss t → expression_of t ≡ Some (expression start ss)
unfolding expression_of
from_complete None ss t h =
    let all = steps_cut ss t h in
    ap parted all.cut ∙ ap (λ (o : Option Text). begun o all.part all.parts) all.no_start ∙ ap (from None) all.reads
from_complete (Some name) [] t h =
    ap parted (part_ends bar t (start_runs name t h)) ∙ ap (λ (o : Option Text). begun o t []) (start_complete name t h)
from_complete (Some name) (s ∷ ss) t h =
    let all = steps_cut (s ∷ ss) h.rest h.is_rest in
    ap parted (ap (between bar false) h.written ∙ part_cut bar h.first h.rest (start_runs name h.first h.is_first))
    ∙ ap (λ (o : Option Text). begun o h.first (between bar false h.rest)) (start_complete name h.first h.is_first)
    ∙ ap (λ (ps : List Text). from (Some name) (steps_of ps)) all.cut
    ∙ ap (from (Some name)) all.reads

-- an expression that a text spells is what it is read as
pub complete : (t : Text) (e : Expression) → Spells t e → expression_of t ≡ Some e
complete t e h = from_complete e.start e.steps t h
