-- What a command prints and leaves, from what its parts print and leave.
use Rattle.std.proofs.Common.{◌≡◌, ◌∙◌, ℕ, List, ◌++◌, refl, sym, ap, append_assoc}
use Rattle.trace_model.specs.declared.commands.Command.{Command}
use Rattle.edit_model.specs.declared.items.Planned.{Planned}
use Rattle.trace_model.specs.declared.reports.Report.{Report}
use Rattle.edit_model.specs.State.{State}
use Rattle.edit_model.specs.Minds.{Mind}
use Rattle.edit_model.specs.Machine.{Setup, Scene}
use Rattle.edit_model.specs.Outcome.{outcomes}
use Rattle.trace_model.specs.Items.{items_of, items_in}
use Rattle.trace_model.specs.Report.{nesting_behind, last_report}
use Rattle.trace_model.specs.Printed.{header_line}
use Rattle.trace_model.specs.Output.{Session, standing, scene_of, scene_behind, name_of, log_lines, reply_lines, report_lines, lines_of, command_bytes, session_behind}
use Rattle.edit_model.specs.Machine.{scene_at}
use Rattle.editor_core.proofs.Swaps.{swap-reply}

-- the scene behind the items of a command
abbrev behind : Setup → Session → Command → Scene
behind r session asked = outcomes r (items_in (items_of session.state asked)) (scene_of session)

lines-are : (r : Setup) (session : Session) (asked : Command)
    → lines_of r session asked ≡ (log_lines (behind r session asked) ++ reply_lines session.state session.nesting asked)
    ++ report_lines (behind r session asked).state (nesting_behind session.nesting asked) session.last
unfolding lines_of scene_behind
lines-are r session asked = refl

in_order : (before header reply log report one two three four : List ℕ) → one ≡ before ++ header → two ≡ one ++ reply → three ≡ two ++ log
    → four ≡ three ++ report → reply ++ log ≡ log ++ reply → four ≡ before ++ (header ++ ((log ++ reply) ++ report))
in_order before header reply log report one two three four a b c d same =
    let whole : four ≡ (((before ++ header) ++ reply) ++ log) ++ report = cc in
    let front : (((before ++ header) ++ reply) ++ log) ++ report ≡ before ++ (header ++ ((reply ++ log) ++ report)) = simp append_assoc in
    whole ∙ (front ∙ ap (λ bytes. before ++ (header ++ (bytes ++ report))) same)

-- what the parts of a command's run leave, each in terms of the one before it
pub record Parts (r : Setup) (number : ℕ) (session : Session) (asked : Command) (planned : Planned) (before now : List ℕ) (state : State)
    (minds : List Mind) (nesting : ℕ) (last : Report) : Type 0 where
  pub planned_is : planned ≡ items_of session.state asked
  pub header : List ℕ
  pub header_is : header ≡ before ++ header_line number (name_of asked)
  pub reply : List ℕ
  pub reply_is : reply ≡ header ++ reply_lines session.state session.nesting asked
  pub log : List ℕ
  pub log_is : log ≡ reply ++ log_lines (outcomes r (items_in planned) (scene_of session))
  pub report_is : now ≡ log ++ report_lines state nesting session.last
  pub state_is : state ≡ (outcomes r (items_in planned) (scene_of session)).state
  pub minds_is : minds ≡ (outcomes r (items_in planned) (scene_of session)).minds
  pub nesting_is : nesting ≡ nesting_behind session.nesting asked
  pub last_is : last ≡ last_report state nesting session.last

module _ {r : Setup} {number : ℕ} {session : Session} {asked : Command} {planned : Planned} {before now : List ℕ} {state : State} {minds : List Mind}
    {nesting : ℕ} {last : Report} (parts : Parts r number session asked planned before now state minds nesting last) where
  scene-is : outcomes r (items_in planned) (scene_of session) ≡ behind r session asked
  scene-is = ap (λ items. outcomes r (items_in items) (scene_of session)) parts.planned_is

  pub parts-bytes : now ≡ before ++ command_bytes r number session asked
  parts-bytes =
      let reported : report_lines state nesting session.last
      ≡ report_lines (behind r session asked).state (nesting_behind session.nesting asked) session.last =
      rw (parts.state_is, parts.nesting_is, scene-is) refl in
      in_order before (header_line number (name_of asked)) (reply_lines session.state session.nesting asked) (log_lines (behind r session asked))
      (report_lines (behind r session asked).state (nesting_behind session.nesting asked) session.last)
      parts.header parts.reply parts.log now parts.header_is parts.reply_is
      (parts.log_is ∙ ap (λ scene. parts.reply ++ log_lines scene) scene-is)
      (parts.report_is ∙ ap (λ bytes. parts.log ++ bytes) reported)
      (swap-reply r session asked)
      ∙ ap (λ lines. before ++ (header_line number (name_of asked) ++ lines)) (sym (lines-are r session asked))

  behind-is : session_behind r session asked
      ≡ standing (behind r session asked).state (behind r session asked).minds (nesting_behind session.nesting asked)
      (last_report (behind r session asked).state (nesting_behind session.nesting asked) session.last)
  unfolding session_behind scene_behind
  behind-is = refl

  pub parts-session : standing state minds nesting last ≡ session_behind r session asked
  parts-session =
      let here : state ≡ (behind r session asked).state = parts.state_is ∙ ap (λ scene. scene.state) scene-is in
      let there : minds ≡ (behind r session asked).minds = parts.minds_is ∙ ap (λ scene. scene.minds) scene-is in
      rw (parts.last_is, parts.nesting_is, here, there) (sym behind-is)

-- the parts, from what each call leaves
pub parts-of : {r other : Setup} {number : ℕ} {session : Session} {asked : Command} {planned : Planned} {before header reply log now : List ℕ}
    {first second third : State} {minds : List Mind} {one two three : ℕ} {told again last : Report}
    → planned ≡ items_of session.state asked
    → header ≡ before ++ header_line number (name_of asked)
    → reply ≡ header ++ reply_lines session.state session.nesting asked
    → other ≡ r → first ≡ session.state → one ≡ nesting_behind session.nesting asked → told ≡ session.last
    → log ≡ reply ++ log_lines (outcomes other (items_in planned) (scene_at first session.minds))
    → second ≡ (outcomes other (items_in planned) (scene_at first session.minds)).state
    → minds ≡ (outcomes other (items_in planned) (scene_at first session.minds)).minds
    → two ≡ one → again ≡ told
    → now ≡ log ++ report_lines second two again
    → third ≡ second → three ≡ two → last ≡ last_report second two again
    → Parts r number session asked planned before now third minds three last
parts-of {r = r} {other = other} {session = session} {planned = planned} {header = header} {reply = reply} {log = log} {first = first} {second = second}
    {third = third} {two = two} {three = three} {again = again} plans heads replies same_setup same_first same_one same_told logs leaves kept same_two same_again
    reports same_third same_three tells =
    let same : outcomes other (items_in planned) (scene_at first session.minds) ≡ outcomes r (items_in planned) (scene_of session) =
    rw (same_setup, same_first) refl in
    let last_is : again ≡ session.last = same_again ∙ same_told in
    let reported : report_lines second two again ≡ report_lines third three session.last = rw (same_third, same_three, last_is) refl in
    let told_is : last_report second two again ≡ last_report third three session.last = rw (same_third, same_three, last_is) refl in
    record {
      planned_is = plans;
      header = header;
      header_is = heads;
      reply = reply;
      reply_is = replies;
      log = log;
      log_is = logs ∙ ap (λ scene. reply ++ log_lines scene) same;
      report_is = reports ∙ ap (λ bytes. log ++ bytes) reported;
      state_is = same_third ∙ (leaves ∙ ap (λ scene. scene.state) same);
      minds_is = kept ∙ ap (λ scene. scene.minds) same;
      nesting_is = same_three ∙ (same_two ∙ same_one);
      last_is = tells ∙ told_is;
    }
