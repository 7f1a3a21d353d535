-- The classes of a source that was read and checked can be laid out.
use Rattle.std.specs.Prelude.{ℕ, List, map}
use Rattle.std.proofs.Common.{Ok}
use Rattle.cxx_ast.specs.declared.program.Checked.{Checked as CheckedValue}
use Rattle.cxx_ast.specs.declared.standard.Std.{Std}
use Rattle.cxx_ast.specs.Checked.{IsChecked}
use Rattle.cxx_ast.specs.View.{checked_of, class_of}
use Rattle.cxx_front.specs.Answer.{Answers}
use Rattle.class_layout.specs.Fit.{Fit}
use Rattle.class_layout.proofs.Program.{classes_fit}

is_checked : (std : Std) (source : List ℕ) (c : CheckedValue) → Answers std source (Ok c) → IsChecked (checked_of c)
is_checked std source c a =
    let program = a.1.is.0 in
    record {
      source = source;
      tokens = program.tokens;
      std = std;
      program = a.0;
      lexed = program.lexed;
      tree = program.tree;
      valid = a.1.is.1;
      resolved = a.2;
    }

pub fitting : (std : Std) (source : List ℕ) (c : CheckedValue) → Answers std source (Ok c) → Fit (map class_of c.classes.items)
fitting std source c a = classes_fit (checked_of c) (is_checked std source c a)
