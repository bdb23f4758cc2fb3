-- What appending one piece behind another keeps.
use Rattle.std.proofs.Common.{append_assoc}
use Rattle.reply_text.proofs.Appending.{some_more, Extends-same, Extends-behind}

pub ruleset appending = (some_more, Extends-same, Extends-behind, append_assoc)
