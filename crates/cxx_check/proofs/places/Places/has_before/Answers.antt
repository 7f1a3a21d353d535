use Rattle.std.proofs.Common.{Some, None}
use Rattle.cxx_check.proofs.PlaceLaws.{before_by}
use Rattle.cxx_check.proofs.places.Places.has_before.Goals as goal

pub returns-in-None : goal.returns-in-None
returns-in-None c names h = before_by c.args.name.now names c.args.self.now.first.entries c.as_bytes.result.now None h.first c.as_bytes.ensures c.in-None.ensures.value

pub returns-in-Some : goal.returns-in-Some
returns-in-Some c names h = before_by c.args.name.now names c.args.self.now.first.entries c.as_bytes.result.now (Some c.in-Some.place.now) h.first c.as_bytes.ensures c.in-Some.ensures.value
