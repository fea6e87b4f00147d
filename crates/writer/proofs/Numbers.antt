-- A number in bytes, lowest byte first, as std writes it and as the stream format does.
use Rattle.std.proofs.Common.{◌≡◌, ℕ, ◌∷◌, ap₂, refl, arith, w32, w64}
use Rattle.std.specs.Int.{to_le_bytes}
use Rattle.stream.specs.Bytes.{le_bytes}

pub in_four : (v : ℕ) → to_le_bytes w32 v ≡ le_bytes 4 v
in_four v = ap₂ ◌∷◌ (omega arith) (ap₂ ◌∷◌ (omega arith) (ap₂ ◌∷◌ (omega arith) (ap₂ ◌∷◌ (omega arith) refl)))

pub in_eight : (v : ℕ) → to_le_bytes w64 v ≡ le_bytes 8 v
in_eight v =
    ap₂ ◌∷◌ (omega arith) (ap₂ ◌∷◌ (omega arith) (ap₂ ◌∷◌ (omega arith) (ap₂ ◌∷◌ (omega arith)
    (ap₂ ◌∷◌ (omega arith) (ap₂ ◌∷◌ (omega arith) (ap₂ ◌∷◌ (omega arith) (ap₂ ◌∷◌ (omega arith) refl)))))))
