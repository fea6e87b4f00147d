-- A refusal in words: its cause, and its five numbers. Rests on the numbers of causes and layers.
use Rattle.std.specs.Prelude.{ℕ, List, ◌++◌, codes, decimal}
use Rattle.fault.specs.Fault.{cause_number, layer_number}
use Rattle.fault.specs.declared.cause.Cause.{Cause}
use Rattle.fault.specs.declared.cause.Cause.TheVariants.{Header, Cut, UnknownTag, Misplaced, Incomplete, BadName, TooLarge, BadRange, Overlap, TooManyRecords, Trailing, NamesDiffer, TooManyRanges, ShortBuffer, Outside, NoRoom, ShelfFull, NoEntry, NameTaken, Damaged}
use Rattle.fault.specs.declared.fault.Fault.{Fault}

-- the words of each cause
abbrev pub cause_words : Cause → List ℕ
cause_words Header = codes "no stream: the header is missing"
cause_words Cut = codes "the stream is cut off"
cause_words UnknownTag = codes "unknown tag"
cause_words Misplaced = codes "metadata out of place"
cause_words Incomplete = codes "the to name or the size is missing"
cause_words BadName = codes "bad name"
cause_words TooLarge = codes "the size is above 2^40"
cause_words BadRange = codes "the range is empty or passes the size"
cause_words Overlap = codes "the range begins before the end of the one before it"
cause_words TooManyRecords = codes "more than 512 data records"
cause_words Trailing = codes "bytes after the end"
cause_words NamesDiffer = codes "the names do not meet"
cause_words TooManyRanges = codes "more than 512 canonical records"
cause_words ShortBuffer = codes "the buffer is too short"
cause_words Outside = codes "outside the image"
cause_words NoRoom = codes "the store cannot hold the result"
cause_words ShelfFull = codes "the shelf is full"
cause_words NoEntry = codes "no such entry"
cause_words NameTaken = codes "the name is taken"
cause_words Damaged = codes "the shelf's bytes are damaged"

-- the text of a fault: the words of its cause, and the five numbers in decimal
abbrev pub fault_text : Fault → List ℕ
fault_text f =
    cause_words f.cause ++ (codes " (cause " ++ (decimal (cause_number f.cause)
    ++ (codes ", layer " ++ (decimal (layer_number f.layer)
    ++ (codes ", place " ++ (decimal f.place
    ++ (codes ", record " ++ (decimal f.«record»
    ++ (codes ", entry " ++ (decimal f.entry ++ codes ")"))))))))))
