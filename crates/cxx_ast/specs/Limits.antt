-- The limits of a source (profile, as Annex B of ISO/IEC 14882:2003 leaves them to the implementation).
use Rattle.std.specs.Prelude.{ℕ}

-- the bytes of a source
abbrev pub most_bytes : ℕ
most_bytes = 1048576

-- the tokens of a source
abbrev pub most_tokens : ℕ
most_tokens = 65536

-- the depth of a tree
abbrev pub most_depth : ℕ
most_depth = 64

-- the tokens of a function that is defined
abbrev pub most_function_tokens : ℕ
most_function_tokens = 2000

-- the bytes of a function's variables
abbrev pub most_variable_bytes : ℕ
most_variable_bytes = 1536

-- the bytes of a class
abbrev pub most_class_bytes : ℕ
most_class_bytes = 1024

-- the types that a destructor takes over from those of its parts
abbrev pub most_taken : ℕ
most_taken = 64

-- the classes in a chain of bases, the last derived one with them
abbrev pub most_chained : ℕ
most_chained = 64
