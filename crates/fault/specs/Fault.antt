-- The numbers of a refusal: its cause, the layer that gives it, and its place. Rests on nothing.
use Rattle.std.specs.Prelude.{ℕ, Ok, Err, Result}
use Rattle.fault.specs.declared.cause.Cause.{Cause}
use Rattle.fault.specs.declared.cause.Cause.TheVariants.{Header, Cut, UnknownTag, Misplaced, Incomplete, BadName, TooLarge, BadRange, Overlap, TooManyRecords, Trailing, NamesDiffer, TooManyRanges, ShortBuffer, Outside, NoRoom, ShelfFull, NoEntry, NameTaken, Damaged}
use Rattle.fault.specs.declared.layer.Layer.{Layer}
use Rattle.fault.specs.declared.layer.Layer.TheVariants.{Stream, Join, Store, Shelf}
use Rattle.fault.specs.declared.fault.Fault.{Fault}

-- the number of each cause
abbrev pub cause_number : Cause → ℕ
cause_number Header = 1
cause_number Cut = 2
cause_number UnknownTag = 3
cause_number Misplaced = 4
cause_number Incomplete = 5
cause_number BadName = 6
cause_number TooLarge = 7
cause_number BadRange = 8
cause_number Overlap = 9
cause_number TooManyRecords = 10
cause_number Trailing = 11
cause_number NamesDiffer = 12
cause_number TooManyRanges = 13
cause_number ShortBuffer = 14
cause_number Outside = 15
cause_number NoRoom = 16
cause_number ShelfFull = 17
cause_number NoEntry = 18
cause_number NameTaken = 19
cause_number Damaged = 20

-- the number of each layer
abbrev pub layer_number : Layer → ℕ
layer_number Stream = 1
layer_number Join = 2
layer_number Store = 3
layer_number Shelf = 4

-- the layer that gives each cause. `at_layer` says where a call names another one: a bad name where
-- a shelf is made (Shelf), names that do not meet in a put (Shelf), and a buffer that is too short
-- for a joined stream (Join) or for the shelf's bytes (Shelf)
abbrev pub layer_of : Cause → Layer
layer_of NamesDiffer = Join
layer_of TooManyRanges = Join
layer_of Outside = Store
layer_of NoRoom = Store
layer_of ShelfFull = Shelf
layer_of NoEntry = Shelf
layer_of NameTaken = Shelf
layer_of Damaged = Shelf
layer_of c = Stream

-- the place of a cause, of which n is the number at hand: the stream's length at Cut, the first
-- byte after the end record at Trailing, the full length needed at ShortBuffer, the offset at
-- Outside, the offset or the new size at NoRoom, the entry's number at NoEntry, and the tag of the
-- record (in a writer its position) at the other causes of a stream. These six have no place
abbrev pub place_of : Cause → ℕ → ℕ
place_of Header n = 0
place_of NamesDiffer n = 0
place_of TooManyRanges n = 0
place_of ShelfFull n = 0
place_of NameTaken n = 0
place_of Damaged n = 0
place_of c n = n

-- the fault of a cause with the number at hand, which has no record and no entry yet
abbrev pub fault : Cause → ℕ → Fault
fault c n =
    record { cause = c; layer = layer_of c; place = place_of c n; «record» = 0; entry = 0 }

-- the fault with another layer, with its record, and with its entry, and nothing else changed
abbrev pub at_layer : Layer → Fault → Fault
at_layer l f = record f { layer = l }

abbrev pub in_record : ℕ → Fault → Fault
in_record i f = record f { «record» = i }

abbrev pub in_entry : ℕ → Fault → Fault
in_entry i f = record f { entry = i }

-- a result whose error, if it has one, is changed by a function, as `map_err` does
abbrev pub err_by : {T E F : Type 0} → (E → F) → Result T E → Result T F
err_by g (Ok x) = Ok x
err_by g (Err c) = Err (g c)

-- the same where the error is a fault and stays one
abbrev pub fault_by : {T : Type 0} → (Fault → Fault) → Result T Fault → Result T Fault
fault_by g r = err_by g r

-- checks in a row, as `?` chains them: the next result, unless this one is an error
abbrev pub and_then : {A B E : Type 0} → Result A E → (A → Result B E) → Result B E
and_then (Ok x) g = g x
and_then (Err f) g = Err f
