-- Names in lines. The form is this project's own rule.
use Rattle.std.specs.Prelude.{ℕ, List, map, take, nat_le, ◌&&◌, if◌then◌else◌}
use Rattle.texts.specs.declared.line.TheConstants.{SHOWN}

-- a byte from 0x21 to 0x7e, or `?` for another
abbrev pub shown_byte : ℕ → ℕ
shown_byte b = if nat_le 0x21 b && nat_le b 0x7e then b else 0x3f

-- a name as it is shown: its first SHOWN bytes, which are 64
abbrev pub shown : (name : List ℕ) → List ℕ
shown name = map shown_byte (take SHOWN name)
