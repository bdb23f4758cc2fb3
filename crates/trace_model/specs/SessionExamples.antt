-- Worked examples of what commands print, one behind the other.
use Rattle.std.specs.Prelude.{ℕ, ◌≡◌, ◌+◌, ◌++◌, pos, negsuc, List, [], ◌∷◌, None, codes}
use Rattle.edit_base.specs.declared.kinds.What.TheVariants.{Tag, Watch}
use Rattle.trace_model.specs.declared.commands.Command.{Command}
use Rattle.trace_model.specs.declared.commands.Command.TheVariants.{Replace, SetSpan, Select, Deselect, Compose, Commit, Finish, Region, DeleteAround, DeletePoints}
use Rattle.trace_model.specs.declared.commands.Command.TheVariants.{SetSelection, TextBefore, TextAfter, Selected, Begin, End}
use Rattle.edit_model.specs.Examples.{tagged}
use Rattle.edit_model.specs.MindExamples.{loaded}
use Rattle.edit_model.specs.Machine.{Setup}
use Rattle.trace_model.specs.Printed.{end_block}
use Rattle.edit_model.specs.Brought.{incoming_of}
use Rattle.trace_model.specs.Output.{Session, first_session, command_bytes, session_behind}

-- ---- sessions

-- what commands print from this number on, with the block behind the last
abbrev pub printed_from : Setup → ℕ → Session → List Command → List ℕ
printed_from r number session [] = end_block session.state
printed_from r number session (asked ∷ others) =
    command_bytes r number session asked ++ printed_from r (number + 1) (session_behind r session asked) others

-- no filters, watchers in so many slots, and edits as deep as without settings
abbrev pub plain : List ℕ → Setup
plain slots = record { filters = []; slots = slots; depth = 4 }

abbrev pub alone_printed : List Command → List ℕ
alone_printed commands = printed_from (plain []) 1 (first_session []) commands

-- some text, without spans, in the place of some units
abbrev pub put : ℕ → ℕ → List ℕ → Command
put start end units = Replace (pos start) (pos end) (incoming_of units [])

-- ---- a text's selection

-- an end inside a replaced range goes as far into the text that comes, in proportion
abbrev pub ScalesSelections : Type 0
ScalesSelections =
    alone_printed (put 0 0 (codes "abcdef") ∷ Select (pos 3) (pos 3) ∷ put 1 5 (codes "XY") ∷ Select (pos 2) (pos 2) ∷ Select (pos 5) (pos 0) ∷ [])
    ≡ codes "> 1 replace\nedit 0 replace 0 0 6 done\n"
    ++ codes "> 2 select\nedit 0 select 3 3 done\nreport 3 3 -1 -1\n"
    ++ codes "> 3 replace\nedit 0 replace 1 5 2 done\nreport 2 2 -1 -1\n"
    ++ codes "> 4 select\nedit 0 select 2 2 nochange\n"
    ++ codes "> 5 select\nedit 0 select 5 0 refused beyond 4\n"
    ++ codes "end\ntext 4 \"aXYf\"\nspan 0 2 2 546 sel-start\nspan 1 2 2 34 sel-end\nselection 2 2\nregion -1 -1\n"

-- the text round a selection that was made backwards, and without one
abbrev pub ReadsRound : Type 0
ReadsRound =
    alone_printed
    (put 0 0 (codes "abcd") ∷ Select (pos 3) (pos 1) ∷ Selected ∷ TextBefore 5 ∷ TextAfter 1 ∷ Deselect ∷ Selected ∷ TextBefore 1 ∷ TextAfter 2 ∷ Deselect ∷ [])
    ≡ codes "> 1 replace\nedit 0 replace 0 0 4 done\n"
    ++ codes "> 2 select\nedit 0 select 3 1 done\nreport 3 1 -1 -1\n"
    ++ codes "> 3 selected\ntext 2 \"bc\"\n> 4 text_before\ntext 1 \"a\"\n> 5 text_after\ntext 1 \"d\"\n"
    ++ codes "> 6 deselect\nedit 0 deselect done\nreport -1 -1 -1 -1\n"
    ++ codes "> 7 selected\nnone\n> 8 text_before\ntext 0 \"\"\n> 9 text_after\ntext 2 \"ab\"\n"
    ++ codes "> 10 deselect\nedit 0 deselect absent\n"
    ++ codes "end\ntext 4 \"abcd\"\nselection -1 -1\nregion -1 -1\n"

-- ---- a connection

-- a cursor that counts from the start is placed in the old text, so it ends behind a pure insertion
abbrev pub PlacesCursors : Type 0
PlacesCursors =
    alone_printed (Commit (incoming_of (codes "abc") []) (pos 0) ∷ [])
    ≡ codes "> 1 commit\nedit 0 select 0 0 done\nedit 0 replace 0 0 3 done\nreport 3 3 -1 -1\n"
    ++ codes "end\ntext 3 \"abc\"\nspan 0 3 3 546 sel-start\nspan 1 3 3 34 sel-end\nselection 3 3\nregion -1 -1\n"

-- one report for all that a batch changed, when its outermost part ends
abbrev pub ReportsOnce : Type 0
ReportsOnce =
    alone_printed
    (put 0 0 (codes "abc") ∷ Begin ∷ Begin ∷ SetSelection (pos 1) (pos 1) ∷ SetSelection (pos 2) (pos 2) ∷ End ∷ End ∷ End ∷ SetSelection (pos 4) (pos 0) ∷ [])
    ≡ codes "> 1 replace\nedit 0 replace 0 0 3 done\n> 2 begin\nreply done\n> 3 begin\nreply done\n"
    ++ codes "> 4 set_selection\nedit 0 select 1 1 done\n> 5 set_selection\nedit 0 select 2 2 done\n"
    ++ codes "> 6 end\nreply done\n> 7 end\nreply done\nreport 2 2 -1 -1\n> 8 end\nreply refused not-in-batch\n"
    ++ codes "> 9 set_selection\nreply ignored\n"
    ++ codes "end\ntext 3 \"abc\"\nspan 0 2 2 546 sel-start\nspan 1 2 2 34 sel-end\nselection 2 2\nregion -1 -1\n"

-- a region is marked whatever the order of its places, goes, and isn't marked where it would be empty
abbrev pub MarksRegions : Type 0
MarksRegions =
    alone_printed (put 0 0 (codes "abc") ∷ Region (pos 3) (pos 1) ∷ Finish ∷ Region (pos 2) (pos 2) ∷ Region (negsuc 6) (pos 9) ∷ [])
    ≡ codes "> 1 replace\nedit 0 replace 0 0 3 done\n"
    ++ codes "> 2 region\nedit 0 drop nochange\nedit 0 mark 1 3 done\nreport -1 -1 1 3\n"
    ++ codes "> 3 finish\nedit 0 drop done\nreport -1 -1 -1 -1\n"
    ++ codes "> 4 region\nedit 0 drop nochange\nedit 0 mark 2 2 ignored\n"
    ++ codes "> 5 region\nedit 0 drop nochange\nedit 0 mark 0 3 done\nreport -1 -1 0 3\n"
    ++ codes "end\ntext 3 \"abc\"\nspan 2 0 3 289 composing\nselection -1 -1\nregion 0 3\n"

-- a connection's text leaves a composing text without a region as it is; finishing doesn't
abbrev pub SparesComposing : Type 0
SparesComposing =
    alone_printed
    (put 0 0 (codes "ab") ∷ SetSpan 5 (pos 0) (pos 2) 290 (Tag 1) ∷ Compose (incoming_of (codes "c") []) (pos 1) ∷ Finish ∷ [])
    ≡ codes "> 1 replace\nedit 0 replace 0 0 2 done\n> 2 set_span\nedit 0 set 5 0 2 290 done\n"
    ++ codes "> 3 compose\nedit 0 select 0 0 done\nedit 0 replace 0 0 1 done\nreport 1 1 0 1\n"
    ++ codes "> 4 finish\nedit 0 drop done\nreport 1 1 -1 -1\n"
    ++ codes "end\ntext 3 \"cab\"\nspan 0 1 1 546 sel-start\nspan 1 1 1 34 sel-end\nselection 1 1\nregion -1 -1\n"

-- a pair counts as one character, and half of one stops a deletion; without a selection there is none
abbrev pub CountsCharacters : Type 0
CountsCharacters =
    alone_printed
    (put 0 0 (97 ∷ 55357 ∷ 56832 ∷ 98 ∷ 55357 ∷ 56832 ∷ 56832 ∷ []) ∷ DeletePoints 1 0 ∷ DeleteAround 1 0 ∷ SetSelection (pos 3) (pos 3) ∷ DeletePoints 1 2
    ∷ DeletePoints 5 1 ∷ SetSelection (pos 0) (pos 0) ∷ DeletePoints 1 1 ∷ [])
    ≡ codes "> 1 replace\nedit 0 replace 0 0 7 done\n> 2 delete_points\nreply absent\n> 3 delete_around\nreply absent\n"
    ++ codes "> 4 set_selection\nedit 0 select 3 3 done\nreport 3 3 -1 -1\n"
    ++ codes "> 5 delete_points\nedit 0 replace 1 3 0 done\nedit 0 replace 1 4 0 done\nreport 1 1 -1 -1\n"
    ++ codes "> 6 delete_points\nreply ignored\n"
    ++ codes "> 7 set_selection\nedit 0 select 0 0 done\nreport 0 0 -1 -1\n"
    ++ codes "> 8 delete_points\nedit 0 replace 0 0 0 nochange\nedit 0 replace 0 1 0 done\n"
    ++ codes "end\ntext 1 \"\\ude00\"\nspan 0 0 0 546 sel-start\nspan 1 0 0 34 sel-end\nselection 0 0\nregion -1 -1\n"

-- ---- a connection whose text has watchers

-- a watcher that answers the first deletion leaves less of the text than the second asks for
abbrev pub ClampsDeletions : Type 0
ClampsDeletions =
    printed_from (plain (0 ∷ [])) 1 (first_session (loaded 3 (3 ∷ []) 0 None ∷ []))
    (put 0 0 (codes "abcdefgh") ∷ SetSpan 10 (pos 0) (pos 8) 18 (Watch 0) ∷ SetSelection (pos 5) (pos 5) ∷ DeleteAround 2 3 ∷ [])
    ≡ codes "> 1 replace\nedit 0 replace 0 0 8 done\n> 2 set_span\nedit 0 set 10 0 8 18 done\n"
    ++ codes "> 3 set_selection\nedit 0 select 5 5 done\nadded 0 0 0 5 5\nadded 0 0 1 5 5\nreport 5 5 -1 -1\n"
    ++ codes "> 4 delete_around\nedit 0 replace 3 5 0 done\nbefore 0 0 3 2 0\nchanged 0 0 3 2 0\nafter 0 0 3 2 0\n"
    ++ codes "edit 1 replace 3 6 0 done\nbefore 1 0 3 3 0\nchanged 1 0 3 3 0\nafter 1 0 3 3 0\n"
    ++ codes "moved 0 0 0 5 5 3 3\nmoved 0 0 1 5 5 3 3\nedit 0 replace 3 3 0 nochange\nreport 3 3 -1 -1\n"
    ++ codes "end\ntext 3 \"abc\"\nspan 10 0 3 18 watch 0\nspan 0 3 3 546 sel-start\nspan 1 3 3 34 sel-end\nselection 3 3\nregion -1 -1\n"

-- typing: a text is composed and committed, a watcher closes a parenthesis, so that the cursor stands behind that, and then the
-- unit before the cursor goes
abbrev pub TypesText : Type 0
TypesText =
    printed_from (plain (0 ∷ 1 ∷ [])) 1 (first_session (loaded 0 [] 0 None ∷ loaded 1 (40 ∷ 41 ∷ []) 0 None ∷ []))
    (SetSpan 11 (pos 0) (pos 0) 18 (Watch 1) ∷ Compose (incoming_of (codes "h") []) (pos 1) ∷ Compose (incoming_of (codes "he") []) (pos 1)
    ∷ Commit (incoming_of (codes "hello ") []) (pos 1) ∷ Commit (incoming_of (codes "(") []) (pos 1) ∷ DeleteAround 1 0 ∷ [])
    ≡ codes "> 1 set_span\nedit 0 set 11 0 0 18 done\n"
    ++ codes "> 2 compose\nedit 0 select 0 0 done\nadded 0 1 0 0 0\nadded 0 1 1 0 0\nedit 0 replace 0 0 1 done\nbefore 0 1 0 0 1\n"
    ++ codes "changed 0 1 0 0 1\nafter 0 1 0 0 1\nmoved 0 1 0 0 0 1 1\nmoved 0 1 1 0 0 1 1\nadded 0 1 2 0 1\nreport 1 1 0 1\n"
    ++ codes "> 3 compose\nedit 0 drop done\nremoved 0 1 2 0 1\nedit 0 select 1 1 nochange\nedit 0 replace 0 1 2 done\n"
    ++ codes "before 0 1 0 1 2\nchanged 0 1 0 1 2\nafter 0 1 0 1 2\nmoved 0 1 0 1 1 2 2\nmoved 0 1 1 1 1 2 2\nadded 0 1 2 0 2\n"
    ++ codes "report 2 2 0 2\n"
    ++ codes "> 4 commit\nedit 0 drop done\nremoved 0 1 2 0 2\nedit 0 select 2 2 nochange\nedit 0 replace 0 2 6 done\n"
    ++ codes "before 0 1 0 2 6\nchanged 0 1 0 2 6\nafter 0 1 0 2 6\nmoved 0 1 0 2 2 6 6\nmoved 0 1 1 2 2 6 6\nreport 6 6 -1 -1\n"
    ++ codes "> 5 commit\nedit 0 select 6 6 nochange\nedit 0 replace 6 6 1 done\nbefore 0 1 6 0 1\nchanged 0 1 6 0 1\n"
    ++ codes "after 0 1 6 0 1\nedit 1 replace 7 7 1 done\nbefore 1 1 7 0 1\nchanged 1 1 7 0 1\nafter 1 1 7 0 1\nmoved 1 1 0 7 7 8 8\n"
    ++ codes "moved 1 1 1 7 7 8 8\nmoved 0 1 0 6 6 7 7\nmoved 0 1 1 6 6 7 7\nreport 8 8 -1 -1\n"
    ++ codes "> 6 delete_around\nedit 0 replace 7 8 0 done\nbefore 0 1 7 1 0\nchanged 0 1 7 1 0\nafter 0 1 7 1 0\n"
    ++ codes "moved 0 1 0 8 8 7 7\nmoved 0 1 1 8 8 7 7\nedit 0 replace 7 7 0 nochange\nreport 7 7 -1 -1\n"
    ++ codes "end\ntext 7 \"hello (\"\nspan 11 0 7 18 watch 1\nspan 0 7 7 546 sel-start\nspan 1 7 7 34 sel-end\nselection 7 7\n"
    ++ codes "region -1 -1\n"

-- a region that isn't the selection: the text replaces it, its spans come with it, a cursor before the text goes to its start, and
-- deletions spare what stands from the region to the selection
abbrev pub MovesRegions : Type 0
MovesRegions =
    alone_printed
    (put 0 0 (97 ∷ 98 ∷ 55357 ∷ 56832 ∷ 99 ∷ 100 ∷ 10 ∷ 101 ∷ 102 ∷ []) ∷ SetSelection (pos 5) (pos 2) ∷ Region (pos 1) (pos 3)
    ∷ Compose (incoming_of (codes "xyz") (tagged 7 0 2 289 ∷ [])) (negsuc 0) ∷ DeletePoints 2 1 ∷ SetSpan 9 (pos 0) (pos 3) 290 (Tag 2)
    ∷ TextBefore 2 ∷ TextAfter 9 ∷ Finish ∷ DeleteAround 1 1 ∷ Deselect ∷ [])
    ≡ codes "> 1 replace\nedit 0 replace 0 0 9 done\n"
    ++ codes "> 2 set_selection\nedit 0 select 5 2 done\nreport 5 2 -1 -1\n"
    ++ codes "> 3 region\nedit 0 drop nochange\nedit 0 mark 1 3 done\nreport 5 2 1 3\n"
    ++ codes "> 4 compose\nedit 0 drop done\nedit 0 select 0 0 done\nedit 0 replace 1 3 3 done\nreport 0 0 1 4\n"
    ++ codes "> 5 delete_points\nreply ignored\n"
    ++ codes "> 6 set_span\nedit 0 set 9 0 3 290 done\n"
    ++ codes "> 7 text_before\ntext 0 \"\"\n"
    ++ codes "> 8 text_after\ntext 9 \"axyz\\ude00cd\\u000ae\"\n"
    ++ codes "> 9 finish\nedit 0 drop done\nreport 0 0 -1 -1\n"
    ++ codes "> 10 delete_around\nedit 0 replace 0 0 0 nochange\nedit 0 replace 0 1 0 done\n"
    ++ codes "> 11 deselect\nedit 0 deselect done\nreport -1 -1 -1 -1\n"
    ++ codes "end\ntext 9 \"xyz\\ude00cd\\u000aef\"\nselection -1 -1\nregion -1 -1\n"
