-- The first fault of a policy, by what was found of its sites and captures.
use Rattle.std.proofs.Common.{◌≡◌, ◌∙◌, List, Option, Some, None, Result, Ok, Err, option_map, find, sym, ap}
use Rattle.base_model.specs.declared.Path.{Path}
use Rattle.policy_model.specs.Values.{PolicyData, capture_at, unless, path}
use Rattle.policy_model.specs.Places.{Steps as Way}
use Rattle.policy_model.specs.Policies.{sites, at_site, is_unread, names_unknown, reaches_itself, sound_or}
use Rattle.policy_model.specs.declared.Site.{Site}
use Rattle.policy_model.specs.declared.Capture.{Capture}
use Rattle.policy_model.specs.declared.PolicyFault.{PolicyFault}
use Rattle.policy_model.specs.declared.PolicyFault.TheVariants.{BadExpression, UnknownCapture, CaptureCycle}

-- what is told where all sites are expressions, and where these name no other captures either
abbrev cycled : PolicyData → Result PolicyData PolicyFault
cycled p = unless CaptureCycle (option_map capture_at (find (reaches_itself p.captures) p.captures)) (Ok p)

abbrev named : PolicyData → Result PolicyData PolicyFault
named p = unless UnknownCapture (at_site (find (names_unknown p.captures) (sites p))) (cycled p)

module _ (p : PolicyData) (ss : List Site) (are : ss ≡ sites p) where
  -- the first site that is no expression
  told_unread : (o : Option Site) → o ≡ find is_unread ss → sound_or p ≡ unless BadExpression (at_site o) (named p)
  told_unread o first = ap (λ (found : Option Site). unless BadExpression (at_site found) (named p)) (sym (first ∙ ap (λ (rest : List Site). find is_unread rest) are))

  told_unknown : (o : Option Site) → o ≡ find (names_unknown p.captures) ss → named p ≡ unless UnknownCapture (at_site o) (cycled p)
  told_unknown o first = ap (λ (found : Option Site). unless UnknownCapture (at_site found) (cycled p)) (sym (first ∙ ap (λ (rest : List Site). find (names_unknown p.captures) rest) are))

  pub unread_first : (s : Site) (at : Path) → Some s ≡ find is_unread ss → at.steps ≡ s.at → sound_or p ≡ Err (BadExpression at)
  unread_first s at first is = told_unread (Some s) first ∙ ap (λ (way : Way). Err (BadExpression (path way))) (sym is)

  module _ (read : None ≡ find is_unread ss) where
    -- the first that names a capture that isn't there
    pub unknown_first : (s : Site) (at : Path) → Some s ≡ find (names_unknown p.captures) ss → at.steps ≡ s.at → sound_or p ≡ Err (UnknownCapture at)
    unknown_first s at first is = told_unread None read ∙ told_unknown (Some s) first ∙ ap (λ (way : Way). Err (UnknownCapture (path way))) (sym is)

    module _ (known : None ≡ find (names_unknown p.captures) ss) where
      told_cycle : (o : Option Capture) → o ≡ find (reaches_itself p.captures) p.captures → sound_or p ≡ unless CaptureCycle (option_map capture_at o) (Ok p)
      told_cycle o first = told_unread None read ∙ told_unknown None known ∙ ap (λ (found : Option Capture). unless CaptureCycle (option_map capture_at found) (Ok p)) (sym first)

      -- the first capture that reaches itself
      pub cycle_first : (c : Capture) (at : Path) → Some c ≡ find (reaches_itself p.captures) p.captures → at.steps ≡ capture_at c → sound_or p ≡ Err (CaptureCycle at)
      cycle_first c at first is = told_cycle (Some c) first ∙ ap (λ (way : Way). Err (CaptureCycle (path way))) (sym is)

      -- none of these
      pub no_fault : None ≡ find (reaches_itself p.captures) p.captures → sound_or p ≡ Ok p
      no_fault first = told_cycle None first
