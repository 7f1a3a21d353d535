-- The reserved words, which are no names (ISO/IEC 14882:2003, 2.11): the keywords of C++03 (table 3), its alternative tokens (table 4), and `std`
-- (profile).
use Rattle.std.specs.Prelude.{ℕ, List, [], ◌∷◌, codes}
use Rattle.cxx_ast.specs.declared.keyword.Keyword.{Keyword}
use Rattle.cxx_ast.specs.declared.keyword.Keyword.TheVariants as word

-- the bytes of a reserved word
unfoldable pub spelling : Keyword → List ℕ
spelling word.Asm = codes "asm"
spelling word.Auto = codes "auto"
spelling word.Bool = codes "bool"
spelling word.Break = codes "break"
spelling word.Case = codes "case"
spelling word.Catch = codes "catch"
spelling word.Char = codes "char"
spelling word.Class = codes "class"
spelling word.Const = codes "const"
spelling word.ConstCast = codes "const_cast"
spelling word.Continue = codes "continue"
spelling word.Default = codes "default"
spelling word.Delete = codes "delete"
spelling word.Do = codes "do"
spelling word.Double = codes "double"
spelling word.DynamicCast = codes "dynamic_cast"
spelling word.Else = codes "else"
spelling word.Enum = codes "enum"
spelling word.Explicit = codes "explicit"
spelling word.Export = codes "export"
spelling word.Extern = codes "extern"
spelling word.False = codes "false"
spelling word.Float = codes "float"
spelling word.For = codes "for"
spelling word.Friend = codes "friend"
spelling word.Goto = codes "goto"
spelling word.If = codes "if"
spelling word.Inline = codes "inline"
spelling word.Int = codes "int"
spelling word.Long = codes "long"
spelling word.Mutable = codes "mutable"
spelling word.Namespace = codes "namespace"
spelling word.New = codes "new"
spelling word.Operator = codes "operator"
spelling word.Private = codes "private"
spelling word.Protected = codes "protected"
spelling word.Public = codes "public"
spelling word.Register = codes "register"
spelling word.ReinterpretCast = codes "reinterpret_cast"
spelling word.Return = codes "return"
spelling word.Short = codes "short"
spelling word.Signed = codes "signed"
spelling word.Sizeof = codes "sizeof"
spelling word.Static = codes "static"
spelling word.StaticCast = codes "static_cast"
spelling word.Struct = codes "struct"
spelling word.Switch = codes "switch"
spelling word.Template = codes "template"
spelling word.This = codes "this"
spelling word.Throw = codes "throw"
spelling word.True = codes "true"
spelling word.Try = codes "try"
spelling word.Typedef = codes "typedef"
spelling word.Typeid = codes "typeid"
spelling word.Typename = codes "typename"
spelling word.Union = codes "union"
spelling word.Unsigned = codes "unsigned"
spelling word.Using = codes "using"
spelling word.Virtual = codes "virtual"
spelling word.Void = codes "void"
spelling word.Volatile = codes "volatile"
spelling word.WcharT = codes "wchar_t"
spelling word.While = codes "while"
spelling word.And = codes "and"
spelling word.AndEq = codes "and_eq"
spelling word.Bitand = codes "bitand"
spelling word.Bitor = codes "bitor"
spelling word.Compl = codes "compl"
spelling word.Not = codes "not"
spelling word.NotEq = codes "not_eq"
spelling word.Or = codes "or"
spelling word.OrEq = codes "or_eq"
spelling word.Xor = codes "xor"
spelling word.XorEq = codes "xor_eq"
spelling word.Std = codes "std"

-- the reserved words
abbrev pub keywords : List Keyword
keywords =
    word.Asm ∷
    word.Auto ∷
    word.Bool ∷
    word.Break ∷
    word.Case ∷
    word.Catch ∷
    word.Char ∷
    word.Class ∷
    word.Const ∷
    word.ConstCast ∷
    word.Continue ∷
    word.Default ∷
    word.Delete ∷
    word.Do ∷
    word.Double ∷
    word.DynamicCast ∷
    word.Else ∷
    word.Enum ∷
    word.Explicit ∷
    word.Export ∷
    word.Extern ∷
    word.False ∷
    word.Float ∷
    word.For ∷
    word.Friend ∷
    word.Goto ∷
    word.If ∷
    word.Inline ∷
    word.Int ∷
    word.Long ∷
    word.Mutable ∷
    word.Namespace ∷
    word.New ∷
    word.Operator ∷
    word.Private ∷
    word.Protected ∷
    word.Public ∷
    word.Register ∷
    word.ReinterpretCast ∷
    word.Return ∷
    word.Short ∷
    word.Signed ∷
    word.Sizeof ∷
    word.Static ∷
    word.StaticCast ∷
    word.Struct ∷
    word.Switch ∷
    word.Template ∷
    word.This ∷
    word.Throw ∷
    word.True ∷
    word.Try ∷
    word.Typedef ∷
    word.Typeid ∷
    word.Typename ∷
    word.Union ∷
    word.Unsigned ∷
    word.Using ∷
    word.Virtual ∷
    word.Void ∷
    word.Volatile ∷
    word.WcharT ∷
    word.While ∷
    word.And ∷
    word.AndEq ∷
    word.Bitand ∷
    word.Bitor ∷
    word.Compl ∷
    word.Not ∷
    word.NotEq ∷
    word.Or ∷
    word.OrEq ∷
    word.Xor ∷
    word.XorEq ∷
    word.Std ∷
    []
