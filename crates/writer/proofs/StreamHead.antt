-- What stands before the data records, piece by piece.
use Rattle.std.proofs.Common.{◌≡◌, ℕ, ◌+◌, List, [], ◌∷◌, ◌++◌, length, ap, ◌∙◌, arith}
use Rattle.std.proofs.lemmas.List.{append_assoc, length-append}
use Rattle.stream.specs.Bytes.{le_bytes}
use Rattle.stream.specs.Records.{header, records_bytes, from_records, to_name, image_size}
use Rattle.writer.specs.Fields.{name_record, opening}
use Rattle.stream.proofs.StreamMeaning.{encodings_append}

regroup : (a b c d e : List ℕ) → a ++ (b ++ (c ++ (d ++ e))) ≡ (((a ++ b) ++ c) ++ d) ++ e
regroup a b c d e = simp append_assoc

-- the opening as its fields, in the order in which they are written
pub opening_is : (from to : List ℕ) (size : ℕ)
    → opening from to size ≡ (((header ++ records_bytes (from_records from)) ++ name_record 116 to) ++ (115 ∷ [])) ++ le_bytes 8 size
opening_is from to size =
    ap (λ t. header ++ t) (encodings_append (from_records from) (to_name to ∷ (image_size size ∷ [])))
    ∙ regroup header (records_bytes (from_records from)) (name_record 116 to) (115 ∷ []) (le_bytes 8 size)

pub length_opening : (from to : List ℕ) (size : ℕ) → length (opening from to size) ≡ 26 + length (records_bytes (from_records from)) + length to
length_opening from to size =
    let e = ap length (encodings_append (from_records from) (to_name to ∷ (image_size size ∷ []))) in
    let a = length-append (records_bytes (from_records from)) (name_record 116 to ++ (115 ∷ le_bytes 8 size)) in
    let b = length-append to (115 ∷ le_bytes 8 size) in
    omega arith
