-- Which file a refusal is about. Rests on faults.
use Rattle.std.specs.Prelude.{ℕ, zero, suc, List, ◌++◌, codes}
use Rattle.fault.specs.declared.fault.Fault.{Fault}
use Rattle.fault.specs.declared.layer.Layer.{Layer}
use Rattle.fault.specs.declared.layer.Layer.TheVariants.{Stream, Store}

-- of an apply: the image where its store refuses, else the stream
abbrev pub apply_path_by : Layer → List ℕ → List ℕ → List ℕ
apply_path_by Store stream image = image
apply_path_by layer stream image = stream

abbrev pub apply_path : Fault → List ℕ → List ℕ → List ℕ
apply_path f stream image = apply_path_by f.layer stream image

-- of a join: the stream that has the fault, where entry 0 is the earlier one, else both, with a
-- comma between
abbrev pub join_path_by : Layer → ℕ → List ℕ → List ℕ → List ℕ
join_path_by Stream zero earlier later = earlier
join_path_by Stream (suc k) earlier later = later
join_path_by layer entry earlier later = earlier ++ (codes ", " ++ later)

abbrev pub join_path : Fault → List ℕ → List ℕ → List ℕ
join_path f earlier later = join_path_by f.layer f.entry earlier later
