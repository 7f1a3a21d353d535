-- What the checker answers.
use Rattle.std.specs.Prelude.{◌≡◌, Result, Ok, Err, Some}
use Rattle.cxx_ast.specs.declared.program.Checked.{Checked}
use Rattle.cxx_ast.specs.declared.standard.Std.{Std}
use Rattle.cxx_ast.specs.Plain.{Program}
use Rattle.cxx_ast.specs.Broken.{Valid}
use Rattle.cxx_ast.specs.Checked.{Resolves}
use Rattle.cxx_ast.specs.Refused.{refused}
use Rattle.cxx_ast.specs.View.{checked_of}
use Rattle.cxx_check.specs.declared.error.CheckError.{CheckError}
use Rattle.cxx_check.specs.declared.error.CheckError.TheVariants as errors

-- the checked program of one that is valid by a standard, or the first of the rules that are broken; want of memory is free
abbrev pub Answers : Std → Program → Result Checked CheckError → Type 0
Answers std p (Ok c) = Valid std p × Resolves std p (checked_of c)
Answers std p (Err (errors.Refused number place)) = refused std p ≡ Some (number, place)
Answers std p (Err errors.NoMemory) = Unit {0}
