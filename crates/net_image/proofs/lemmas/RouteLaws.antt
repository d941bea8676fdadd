-- The form of a route is exact.
use Rattle.std.proofs.Common.{refl}
use Rattle.net_image.specs.Form.{◌⨾◌, number}
use Rattle.net_image.specs.Fields.{name, table, gateway, subnet}
use Rattle.net_image.specs.Image.{route}
use Rattle.net_image.specs.Laws.{IsExact}
use Rattle.net_image.proofs.lemmas.Exact.{made_exact, seq_exact}
use Rattle.net_image.proofs.lemmas.Numbers.{number_exact}
use Rattle.net_image.proofs.lemmas.FieldLaws.{name_exact, table_exact, gateway_exact, subnet_exact}

-- the form of a route is exact
pub route_exact : IsExact route
unfolding route
route_exact = made_exact _ _ (subnet ⨾ table ⨾ number 4 ⨾ gateway ⨾ name)
    (seq_exact subnet _ subnet_exact (seq_exact table _ table_exact (seq_exact (number 4) _ (number_exact 4) (seq_exact gateway name gateway_exact name_exact))))
    (λ r fits. refl) (λ p fits. refl)
