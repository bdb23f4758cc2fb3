-- The number of each refusal.
use Rattle.std.specs.Prelude.{ℕ}
use Rattle.edit_base.specs.declared.verdicts.Refusal.{Refusal}
use Rattle.edit_base.specs.declared.verdicts.Refusal.TheVariants.{Depth, Budget, Reserved, Slot, Order, Beyond, Below, ParagraphStart, ParagraphEnd, TooLong, SpansFull, Flags, NotInBatch, NestingFull}

abbrev pub number_of : Refusal → ℕ
number_of Depth = 1
number_of Budget = 2
number_of Reserved = 3
number_of Slot = 4
number_of Order = 5
number_of Beyond = 6
number_of Below = 7
number_of ParagraphStart = 8
number_of ParagraphEnd = 9
number_of TooLong = 10
number_of SpansFull = 11
number_of Flags = 12
number_of NotInBatch = 13
number_of NestingFull = 14
