-- Document 01's frames, computed on the definitions: one table under one statement. Assumes nothing.
use Rattle.std.specs.Prelude.{ℕ, ◌≡◌, refl, List, [], ◌∷◌, map}
use Rattle.frame.specs.declared.Kind.{Kind}
use Rattle.frame.specs.declared.Kind.TheVariants.{Minicomputer, Terminal}
use Rattle.frame.specs.Frame.{frame_of, xor_from}

pub record Example : Type 0 where
  pub kind : Kind
  pub text : List ℕ
  pub frame : List ℕ

-- "01EQ" on either kind, "01000000" (its check equals STX), "01OK"
abbrev pub table : List Example
table =
    record { kind = Minicomputer; text = 0x30 ∷ 0x31 ∷ 0x45 ∷ 0x51 ∷ []; frame = 0x02 ∷ 0x30 ∷ 0x31 ∷ 0x45 ∷ 0x51 ∷ 0x03 ∷ 0x16 ∷ 0x7f ∷ [] }
    ∷ record { kind = Terminal; text = 0x30 ∷ 0x31 ∷ 0x45 ∷ 0x51 ∷ []; frame = 0x2a ∷ 0x30 ∷ 0x31 ∷ 0x45 ∷ 0x51 ∷ 0x0d ∷ 0x0a ∷ [] }
    ∷ record {
      kind = Minicomputer;
      text = 0x30 ∷ 0x31 ∷ 0x30 ∷ 0x30 ∷ 0x30 ∷ 0x30 ∷ 0x30 ∷ 0x30 ∷ [];
      frame = 0x02 ∷ 0x30 ∷ 0x31 ∷ 0x30 ∷ 0x30 ∷ 0x30 ∷ 0x30 ∷ 0x30 ∷ 0x30 ∷ 0x03 ∷ 0x02 ∷ 0x7f ∷ [];
    }
    ∷ record { kind = Minicomputer; text = 0x30 ∷ 0x31 ∷ 0x4f ∷ 0x4b ∷ []; frame = 0x02 ∷ 0x30 ∷ 0x31 ∷ 0x4f ∷ 0x4b ∷ 0x03 ∷ 0x06 ∷ 0x7f ∷ [] }
    ∷ []

pub worked : map (λ e. frame_of e.kind e.text) table ≡ map (λ e. e.frame) table
unfolding frame_of xor_from
worked = refl
