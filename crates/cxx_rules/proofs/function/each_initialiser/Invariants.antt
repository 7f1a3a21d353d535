use Rattle.std.proofs.Common.{◌≡◌, drop, map}
use Rattle.cxx_ast.specs.View.{initialiser_of}
use Rattle.cxx_rules.specs.Parts.{texts_now, initialisers_behind, named_behind}
use Rattle.cxx_rules.proofs.function.each_initialiser.Given as goal

abbrev pub invariant-loop-i : goal.invariant-loop-i
invariant-loop-i l = record {
  found :
      initialisers_behind l.env l.scope l.class l.found (texts_now l.before.items) (map initialiser_of (drop l.i-index l.initialisers))
      ≡ initialisers_behind l.env l.scope l.class l.initial.found (texts_now l.initial.before.items) (map initialiser_of l.initialisers);
  named :
      named_behind (texts_now l.before.items) (map initialiser_of (drop l.i-index l.initialisers))
      ≡ named_behind (texts_now l.initial.before.items) (map initialiser_of l.initialisers);
}
