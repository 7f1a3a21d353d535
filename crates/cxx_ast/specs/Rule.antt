-- The static rules, by the numbers under which they are refused, and where each comes from in ISO/IEC 14882:2003.
use Rattle.std.specs.Prelude.{ℕ}

-- A name that is used is in reach (3.4). A constructor or a destructor has its class's name (12.1, 12.4).
abbrev pub unknown_name : ℕ
unknown_name = 30

-- A name stands once in a scope (3.3), a member once in a class (9.2), a definition once in a program (3.2), a destructor once (12.4), and
-- constructors differ in their number of parameters, the copy constructor apart. A class's name, a built-in function's name and `main` are declared
-- once only, anywhere. (No other overloading: profile.)
abbrev pub redeclared : ℕ
redeclared = 31

-- A value, an argument, an operand or a name has the kind and the type that is needed (4, 5, 8.5, 8.5.3).
abbrev pub type_mismatch : ℕ
type_mismatch = 32

-- There are as many arguments as parameters (5.2.2, 13.3.2), and one for an int (8.5, 12.6.2).
abbrev pub arity : ℕ
arity = 33

-- A class is not its own base (10), and has no member of its own type (9.2).
abbrev pub incomplete_class : ℕ
incomplete_class = 34

-- `catch (...)` is the last handler (15.3).
abbrev pub handler_order : ℕ
handler_order = 35

-- Nothing is written through a reference to const, which no plain reference binds to and no member function is called on (5.17, 7.1.5.1, 8.5.3,
-- 9.3.2).
abbrev pub const_write : ℕ
const_write = 36

-- The declarations of a function agree in result and parameters (3.5, 13.1; no overloading: profile), and in what their exception specifications
-- allow (15.4): everything, or the types of a set.
abbrev pub specification_mismatch : ℕ
specification_mismatch = 37

-- `int main()` is defined (3.6.1; without parameters: profile).
abbrev pub no_main : ℕ
no_main = 38

-- A function's variables take no more than their share of the stack (profile).
abbrev pub frame_too_large : ℕ
frame_too_large = 39

-- A function has no more than so many tokens (profile).
abbrev pub function_too_long : ℕ
function_too_long = 40

-- A class has no more than so many bytes and bases (profile).
abbrev pub class_too_large : ℕ
class_too_large = 41

-- The argument of a reference parameter is an lvalue (8.5.3; also where the reference is const: profile).
abbrev pub not_lvalue : ℕ
not_lvalue = 42

-- A function that is used is defined (3.2).
abbrev pub not_defined : ℕ
not_defined = 43

-- `break` and `continue` stand in a loop (6.6.1, 6.6.2).
abbrev pub loop_jump : ℕ
loop_jump = 44

-- `return` has a value where the function gives one, and only there (6.6.3).
abbrev pub return_form : ℕ
return_form = 45

-- A class has a default constructor where an object of it is made without arguments (8.5, 12.1, 12.6.2).
abbrev pub no_default : ℕ
no_default = 46

-- `main` is not called and no handler (3.6.1).
abbrev pub main_use : ℕ
main_use = 47

-- An initialiser names a member of the class or its direct base, and none is named twice (12.6.2).
abbrev pub initialiser_list : ℕ
initialiser_list = 48

-- A handler for terminate or unexpected is the name of a function without parameters and value (18.6.2.2, 18.6.3.1).
abbrev pub handler_form : ℕ
handler_form = 49

-- By ISO/IEC 14882:2011 no declared name is one of the keywords that it adds (2.12; a use of one is no declaration: profile).
abbrev pub new_keyword : ℕ
new_keyword = 70

-- By ISO/IEC 14882:2003 there is no `noexcept`.
abbrev pub noexcept_in_03 : ℕ
noexcept_in_03 = 71
