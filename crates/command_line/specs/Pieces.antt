-- What the words behind a verb are: operands and options, in their order.
use Rattle.std.specs.Prelude.{ℕ, Bool, true, false, ◌==◌, List, [], ◌∷◌, take, drop, map, find, Option, Some, None, option_map, codes, bytes_eq, if◌then◌else◌}
use Rattle.command_line.specs.declared.setting.Setting.{Setting}
use Rattle.command_line.specs.Setting.{has_value, name_of}
use Rattle.command_line.specs.Parted.{parted}

-- an operand, or an option with its value, which is empty for a switch
pub data Piece : Type 0 where
  Operand : List ℕ → Piece
  Given : Setting → List ℕ → Piece

-- a word that begins with `-` and is longer than it
abbrev pub is_dashed : List ℕ → Bool
is_dashed [] = false
is_dashed (b ∷ []) = false
is_dashed (b ∷ c ∷ rest) = b == 45

-- the option of this name
abbrev pub setting_of : List Setting → List ℕ → Option Setting
setting_of settings name = find (λ s. bytes_eq (name_of s) name) settings

-- the option that a word names, as `--NAME` or `--NAME=VALUE`, and the value that is joined to it
abbrev pub named : List Setting → List ℕ → Option (Setting × Option (List ℕ))
named settings word =
    let parts = parted 61 (drop 2 word) in
    if bytes_eq (take 2 word) (codes "--") then option_map (λ s. (s, parts.1)) (setting_of settings parts.0) else None

-- a piece, and those behind it
abbrev pub before : Piece → Option (List Piece) → Option (List Piece)
before piece others = option_map (λ pieces. piece ∷ pieces) others

-- An option with the value that is joined to it, where it may have one. `next` reads the words behind it, of which the first
-- may be the value of an option.
abbrev pub met : Bool → Setting → Option (List ℕ) → (Option Setting → Option (List Piece)) → Option (List Piece)
met true s (Some value) next = before (Given s value) (next None)
met true s None next = next (Some s)
met false s (Some value) next = None
met false s None next = before (Given s []) (next None)

abbrev pub met_option : Option (Setting × Option (List ℕ)) → (Option Setting → Option (List Piece)) → Option (List Piece)
met_option None next = None
met_option (Some p) next = met (has_value p.0) p.0 p.1 next

-- a word: the value of the option that waits for one, or `--`, or an option, or an operand
abbrev pub met_word : List Setting → Option Setting → List ℕ → List (List ℕ) → (Option Setting → Option (List Piece)) → Option (List Piece)
met_word settings (Some s) word words next = if is_dashed word then None else before (Given s word) (next None)
met_word settings None word words next =
    if bytes_eq word (codes "--") then Some (map (λ w. Operand w) words)
    else if is_dashed word then met_option (named settings word) next
    else before (Operand word) (next None)

-- what words are, where an option may wait for its value; none where they can't be read so
unfoldable pub pieces_of : List Setting → List (List ℕ) → Option Setting → Option (List Piece)
pieces_of settings [] None = Some []
pieces_of settings [] (Some s) = None
pieces_of settings (word ∷ words) waiting = met_word settings waiting word words (pieces_of settings words)
