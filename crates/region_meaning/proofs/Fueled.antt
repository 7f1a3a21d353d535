-- What is known of exceptions is kept by calls with any fuel.
use Rattle.std.proofs.Common.{ℕ, zero, suc}
use Rattle.cxx_ast.specs.Plain.{Checked}
use Rattle.region_statements.specs.Fueled.{fueled}
use Rattle.region_exceptions.specs.Fares.{CallsFare}
use Rattle.region_exceptions.proofs.Exceptions.{all_calls_fare}

pub fueled_fares : (p : Checked) (limit fuel : ℕ) → CallsFare (fueled p limit fuel)
fueled_fares p limit zero callee this given c n w few order = tt
fueled_fares p limit (suc fuel) callee this given c n w few order =
    all_calls_fare.inside (fueled p limit fuel) (fueled_fares p limit fuel) limit callee this given c n w few order
