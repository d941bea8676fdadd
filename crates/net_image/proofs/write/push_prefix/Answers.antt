use Rattle.std.proofs.Common.{◌∙◌, ◌++◌, ◌∷◌, [], ap, sym, List, ℕ}
use Rattle.net_model.specs.Address.{Address}
use Rattle.net_image.specs.Fields.{address_form}
use Rattle.net_image.proofs.lemmas.Fitting.{prefixes, behind}
use Rattle.net_image.proofs.write.push_prefix.Goals as goal

pub returns-clause-bytes : goal.returns-clause-bytes
returns-clause-bytes c =
    behind _ _ _ _ _ c.in_ok-push_addr.ensures.bytes c.in_ok-push_byte.ensures.bytes
    ∙ ap (λ (a : Address). c.args.out.now.items ++ (address_form.write a ++ c.len_of.result ∷ [])) c.addr.ensures
    ∙ ap (λ (n : ℕ). c.args.out.now.items ++ (address_form.write c.args.of.addr ++ n ∷ [])) c.len_of.ensures.value
    ∙ ap (λ (l : List ℕ). c.args.out.now.items ++ l) (sym (prefixes c.args.of c.len_of.ensures.within).written)

pub returns-clause-fits : goal.returns-clause-fits
returns-clause-fits c = (prefixes c.args.of c.len_of.ensures.within).fits (ap address_form.fits (sym c.addr.ensures) ∙ c.in_ok-push_addr.ensures.fits)
