-- Runs with the effects that a follower is told of, joined.
use Rattle.std.proofs.Common.{◌≡◌, ◌<◌, ◌≤◌, ◌∙◌, ◌⊎◌, inl, inr, ℕ, ◌+◌, Bool, true, false, cond, List, [], ◌∷◌, ◌++◌, map, take, drop, length, get_or, refl, sym, ap, subst, append_assoc, append-nil}
use Rattle.std.proofs.lemmas.List.{at_drop_more, map_more, map-append, take_all, take-append-drop}
use Rattle.edit_base.specs.declared.edits.Edit.{Edit}
use Rattle.edit_base.specs.declared.verdicts.Verdict.{Verdict}
use Rattle.edit_base.specs.declared.verdicts.Verdict.TheVariants.{Done}
use Rattle.edit_model.specs.declared.entries.LogEntry.{LogEntry}
use Rattle.edit_model.specs.declared.events.TextEvent.{TextEvent}
use Rattle.edit_model.specs.declared.events.SpanCallback.{SpanCallback}
use Rattle.edit_model.specs.declared.items.Item.{Item}
use Rattle.edit_model.specs.declared.steps.Step.{Step}
use Rattle.edit_model.specs.State.{State}
use Rattle.edit_model.specs.Verdicts.{judged}
use Rattle.edit_model.specs.Changed.{Effect, change_of, stepped, on_done}
use Rattle.edit_model.specs.Minds.{Mind}
use Rattle.edit_model.specs.Events.{listeners, text_event, span_callbacks}
use Rattle.edit_model.specs.Machine.{Setup, Scene, Task, at, Leads, Passes, run_item, do_rest, make_change, tell_before, tell_changed, tell_after, rest_of, resolved_edit, resolved, is_barred, as_brought, edit_entry, events, sets_off, answer_begun, edit_logged}
use Rattle.edit_model.proofs.MachineRuns.{leads_on, leads_behind, leads_then, leads_first, leads_none, nothing_unless_done}
use Rattle.watcher_rounds.specs.Rounds.{tell_one, Takes, TakesLast, last_of, stands, Tells, Led, Passed, Runs, ComesThrough}
use Rattle.watcher_rounds.proofs.Judgements.{judged-let_in}
use Rattle.watcher_rounds.proofs.Runs.{tells_behind, passes_on, passes_here, passed_here, passed_behind, passed_told, passed_then}

-- ---- a follower's own laws

pub record AreLaws {F : Type 0} (takes : Takes F) : Type 0 where
  pub none : (it : F) → takes it [] it
  pub both : (first second third : F) (here there : List Effect) → takes first here second → takes second there third → takes first (here ++ there) third

-- where they hold of a follower, they hold of it and what the text tells of
last_of-append : (here there : List Effect) (before : Effect) → last_of (here ++ there) before ≡ last_of there (last_of here before)
last_of-append [] there before = refl
last_of-append (effect ∷ here) there before = last_of-append here there effect

pub laws_with_last : {F : Type 0} {takes : Takes F} → AreLaws takes → AreLaws (TakesLast takes)
laws_with_last laws = record {
  none = λ it. (laws.none it.0, refl);
  both = λ first second third here there one other. (
    laws.both first.0 second.0 third.0 here there one.0 other.0,
    other.1 ∙ (ap (λ (before : Effect). last_of there before) one.1 ∙ sym (last_of-append here there first.1)),
  );
}

-- ---- leading on

-- one list of tasks and then another, the first without a change
pub told_then_led : {F : Type 0} {takes : Takes F} {r : Setup} {tasks more left : List Task} {a b c : List Effect → Scene} {x y : F}
    → Tells r tasks [] a b → Led takes r more left b c x y → Led takes r (tasks ++ more) left a c x y
told_then_led told led = record { effects = led.effects; taken = led.taken; run = λ before. leads_then (told.run before) (led.run before) }

pub led_then_told : {F : Type 0} {takes : Takes F} {r : Setup} {tasks more left : List Task} {a b c : List Effect → Scene} {x y : F}
    → Led takes r tasks [] a b x y → Tells r more left b c → Led takes r (tasks ++ more) left a c x y
led_then_told led told = record {
  effects = led.effects;
  taken = led.taken;
  run = λ before. leads_then (led.run before) (told.run (before ++ led.effects));
}

-- what tasks leave without a change leads on
pub told_on : {F : Type 0} {takes : Takes F} {r : Setup} {tasks next left : List Task} {a b c : List Effect → Scene} {x y : F}
    → Tells r tasks next a b → Led takes r next left b c x y → Led takes r tasks left a c x y
told_on told led = record { effects = led.effects; taken = led.taken; run = λ before. leads_on (told.run before) (led.run before) }

pub led_behind : {F : Type 0} {takes : Takes F} {r : Setup} {tasks left : List Task} {a b : List Effect → Scene} {x y : F} (more : List Task)
    → Led takes r tasks left a b x y → Led takes r (tasks ++ more) (left ++ more) a b x y
led_behind more led = record { effects = led.effects; taken = led.taken; run = λ before. leads_behind more (led.run before) }

-- no task, no change
pub led_none : {F : Type 0} {takes : Takes F} → AreLaws takes → (r : Setup) (tasks : List Task) (a : List Effect → Scene) (x : F)
    → Led takes r tasks tasks a a x x
led_none laws r tasks a x = record {
  effects = [];
  taken = laws.none x;
  run = λ before. subst (λ (effects : List Effect). Leads r tasks tasks (a before) (a effects)) (sym (append-nil before)) (leads_none r tasks (a before));
}

pub led_on : {F : Type 0} {takes : Takes F} → AreLaws takes → {r : Setup} {tasks next left : List Task} {a b c : List Effect → Scene} {x y z : F}
    → Led takes r tasks next a b x y → Led takes r next left b c y z → Led takes r tasks left a c x z
led_on laws {r = r} {tasks = tasks} {left = left} {a = a} {c = c} {x = x} {y = y} {z = z} one other = record {
  effects = one.effects ++ other.effects;
  taken = laws.both x y z one.effects other.effects one.taken other.taken;
  run = λ before. subst (λ (effects : List Effect). Leads r tasks left (a before) (c effects)) (append_assoc before one.effects other.effects)
      (leads_on (one.run before) (other.run (before ++ one.effects)));
}

pub led_then : {F : Type 0} {takes : Takes F} → AreLaws takes → {r : Setup} {tasks more left : List Task} {a b c : List Effect → Scene} {x y z : F}
    → Led takes r tasks [] a b x y → Led takes r more left b c y z → Led takes r (tasks ++ more) left a c x z
led_then laws {more = more} one other = led_on laws (led_behind more one) other

-- one more of the tasks that a list gives
pub led_more : {F : Type 0} {takes : Takes F} → AreLaws takes → {X : Type 0} {r : Setup} {a b c : List Effect → Scene} {x y z : F} (task : X → Task)
    (xs : List X) (i : ℕ) (d : X) → i < length xs
    → Led takes r (map task (take i xs)) [] a b x y → Led takes r (task (get_or xs i d) ∷ []) [] b c y z → Led takes r (map task (take (i + 1) xs)) [] a c x z
led_more {takes = takes} laws {r = r} {a = a} {c = c} {x = x} {z = z} task xs i d within first next =
    subst (λ (ts : List Task). Led takes r ts [] a c x z) (sym (map_more task xs i d within)) (led_then laws first next)

-- all of them
pub led_all : {F : Type 0} {takes : Takes F} {X : Type 0} {r : Setup} {a b : List Effect → Scene} {x y : F} (task : X → Task) (xs : List X) (i : ℕ)
    → length xs ≤ i → Led takes r (map task (take i xs)) [] a b x y → Led takes r (map task xs) [] a b x y
led_all {takes = takes} {r = r} {a = a} {b = b} {x = x} {y = y} task xs i past led =
    subst (λ ys. Led takes r (map task ys) [] a b x y) (take_all i xs past) led

-- ---- passing

pub passed_led : {F : Type 0} {takes : Takes F} {r : Setup} {tasks left : List Task} {a b c : List Effect → Scene} {x y : F}
    → Led takes r tasks left a b x y → Passed r left b c → Passed r tasks a c
passed_led {r = r} {tasks = tasks} {a = a} {c = c} one other = record {
  effects = one.effects ++ other.effects;
  run = λ before. subst (λ (effects : List Effect). Passes r tasks (a before) (c effects)) (append_assoc before one.effects other.effects)
      (passes_on (one.run before) (other.run (before ++ one.effects)));
}

-- some tasks, and then others that come to an early end
pub passed_led_then : {F : Type 0} {takes : Takes F} {r : Setup} {tasks more : List Task} {a b c : List Effect → Scene} {x y : F}
    → Led takes r tasks [] a b x y → Passed r more b c → Passed r (tasks ++ more) a c
passed_led_then {more = more} one other = passed_led (led_behind more one) other

-- one of the tasks that a list gives comes to an early end
pub passed_more : {F : Type 0} {takes : Takes F} {X : Type 0} {r : Setup} {a b c : List Effect → Scene} {x y : F} (task : X → Task)
    (xs : List X) (i : ℕ) (d : X) → i < length xs
    → Led takes r (map task (take i xs)) [] a b x y → Passed r (task (get_or xs i d) ∷ []) b c → Passed r (map task xs) a c
passed_more {r = r} {a = a} {c = c} task xs i d within one other =
    subst (λ (ts : List Task). Passed r ts a c)
    (ap (λ (ts : List Task). ts ++ map task (drop (i + 1) xs)) (sym (map_more task xs i d within))
    ∙ (sym (map-append task (take (i + 1) xs) (drop (i + 1) xs)) ∙ ap (λ ys. map task ys) (take-append-drop (i + 1) xs)))
    (passed_behind (map task (drop (i + 1) xs)) (passed_led_then one other))

-- ---- a change

-- an edit's change, of which the follower was told
pub led_change : {F : Type 0} {takes : Takes F} (r : Setup) (asked : Step) (state new : State) (minds : List Mind) (log : List LogEntry) (begun : ℕ)
    (x y : F) → new ≡ stepped state asked → takes x (change_of state asked ∷ []) y
    → Led takes r (make_change asked ∷ []) [] (stands state minds log begun) (stands new minds log begun) x y
led_change {takes = takes} r asked state new minds log begun x y is taken =
    subst (λ (s : State). Led takes r (make_change asked ∷ []) [] (stands state minds log begun) (stands s minds log begun) x y) (sym is)
    (record { effects = change_of state asked ∷ []; taken = taken; run = λ before. leads_first (λ rest. refl) })

-- one that wasn't made, or of which the follower wasn't told
pub passed_change : (r : Setup) (asked : Step) (state new : State) (minds : List Mind) (log : List LogEntry) (begun : ℕ) → (new ≡ state)
    ⊎ (new ≡ stepped state asked)
    → Passed r (make_change asked ∷ []) (stands state minds log begun) (stands new minds log begun)
passed_change r asked state new minds log begun (inl is) =
    subst (λ (s : State). Passed r (make_change asked ∷ []) (stands state minds log begun) (stands s minds log begun)) (sym is)
    (passed_here r (make_change asked ∷ []) (stands state minds log begun))
passed_change r asked state new minds log begun (inr is) =
    subst (λ (s : State). Passed r (make_change asked ∷ []) (stands state minds log begun) (stands s minds log begun)) (sym is)
    (record { effects = change_of state asked ∷ []; run = λ before. passes_on (leads_first {left = []} (λ rest. refl)) (passes_here r [] _) })

-- ---- what an edit sets off

-- its callbacks of the text with the change among them, and then those of spans
abbrev tasks_for : List ℕ → TextEvent → Step → List SpanCallback → List Task
tasks_for slots event asked spans =
    map (λ slot. tell_before slot event) slots
    ++ make_change asked
    ∷ (map (λ slot. tell_changed slot event) slots
    ++ (map (λ slot. tell_after slot event) slots ++ map tell_one spans))

-- what the machine says an edit sets off that is done
pub record SetsOff (slots : List ℕ) (event : TextEvent) (asked : Step) (spans : List SpanCallback) (tasks : List Task) : Type 0 where
  pub same : tasks_for slots event asked spans ≡ tasks

pub sets_off_done : (state : State) (depth : ℕ) (asked : Step) (verdict : Verdict) (slots : List ℕ) (event : TextEvent) (spans : List SpanCallback)
    → verdict ≡ Done → slots ≡ listeners state asked → event ≡ text_event depth asked → spans ≡ span_callbacks state depth asked
    → SetsOff slots event asked spans (on_done verdict (events state depth asked) [])
sets_off_done state depth asked verdict slots event spans done told is of_spans = record {
  same = ap (λ (ks : List ℕ). tasks_for ks event asked spans) told
      ∙ (ap (λ (e : TextEvent). tasks_for (listeners state asked) e asked spans) is
      ∙ (ap (λ (cs : List SpanCallback). tasks_for (listeners state asked) (text_event depth asked) asked cs) of_spans
      ∙ ap (λ (v : Verdict). on_done v (events state depth asked) []) (sym done)));
}

-- who may answer once it was told and made
abbrev pub to_ask : List ℕ → TextEvent → List SpanCallback → List Task
to_ask slots event spans = map (λ slot. tell_after slot event) slots ++ map tell_one spans

-- each part leads on from the one before it
pub led_carried : {F : Type 0} {takes : Takes F} {r : Setup} {tasks : List Task} {a b c d : List Effect → Scene} {x y : F} {slots : List ℕ}
    {event : TextEvent} {asked : Step} {spans : List SpanCallback} (told : List ℕ) → slots ≡ told → SetsOff slots event asked spans tasks
    → Tells r (map (λ slot. tell_before slot event) slots) [] a b
    → Led takes r (make_change asked ∷ []) [] b c x y → Tells r (map (λ slot. tell_changed slot event) slots) [] c d
    → Led takes r tasks (to_ask told event spans) a d x y
led_carried {takes = takes} {r = r} {tasks = tasks} {a = a} {d = d} {x = x} {y = y} {slots = slots} {event = event} {spans = spans} told same sets
    before change changed =
    subst (λ (ks : List ℕ). Led takes r tasks (to_ask ks event spans) a d x y) same
    (subst (λ (ts : List Task). Led takes r ts (to_ask slots event spans) a d x y) sets.same
    (told_then_led before (led_then_told change (tells_behind (to_ask slots event spans) changed))))

-- an early end among the first callbacks, at the change, among the second callbacks
pub passed_before : {r : Setup} {a b : List Effect → Scene} (state : State) (depth : ℕ) (asked : Step) (slots : List ℕ) (event : TextEvent)
    (verdict : Verdict) → verdict ≡ Done → slots ≡ listeners state asked → event ≡ text_event depth asked
    → Passed r (map (λ slot. tell_before slot event) slots) a b → Passed r (on_done verdict (events state depth asked) []) a b
passed_before {r = r} {a = a} {b = b} state depth asked slots event verdict done told is before =
    let spans = span_callbacks state depth asked in
    subst (λ (ts : List Task). Passed r ts a b) (sets_off_done state depth asked verdict slots event spans done told is refl).same
    (passed_behind (make_change asked ∷ (map (λ slot. tell_changed slot event) slots ++ to_ask slots event spans)) before)

pub passed_at_change : {r : Setup} {a b c : List Effect → Scene} (state : State) (depth : ℕ) (asked : Step) (slots : List ℕ) (event : TextEvent)
    (verdict : Verdict) → verdict ≡ Done → slots ≡ listeners state asked → event ≡ text_event depth asked
    → Tells r (map (λ slot. tell_before slot event) slots) [] a b → Passed r (make_change asked ∷ []) b c
    → Passed r (on_done verdict (events state depth asked) []) a c
passed_at_change {r = r} {a = a} {c = c} state depth asked slots event verdict done told is before change =
    let spans = span_callbacks state depth asked in
    subst (λ (ts : List Task). Passed r ts a c) (sets_off_done state depth asked verdict slots event spans done told is refl).same
    (passed_then before (passed_behind (map (λ slot. tell_changed slot event) slots ++ to_ask slots event spans) change))

pub passed_changed : {F : Type 0} {takes : Takes F} {r : Setup} {a b c d : List Effect → Scene} {x y : F} (state : State) (depth : ℕ) (asked : Step)
    (slots : List ℕ) (event : TextEvent) (verdict : Verdict) → verdict ≡ Done → slots ≡ listeners state asked → event ≡ text_event depth asked
    → Tells r (map (λ slot. tell_before slot event) slots) [] a b → Led takes r (make_change asked ∷ []) [] b c x y
    → Passed r (map (λ slot. tell_changed slot event) slots) c d → Passed r (on_done verdict (events state depth asked) []) a d
passed_changed {r = r} {a = a} {d = d} state depth asked slots event verdict done told is before change changed =
    let spans = span_callbacks state depth asked in
    subst (λ (ts : List Task). Passed r ts a d) (sets_off_done state depth asked verdict slots event spans done told is refl).same
    (passed_then before (passed_led_then change (passed_behind (to_ask slots event spans) changed)))

-- those who may answer are asked, about the text and then about spans
pub led_asked : {F : Type 0} {takes : Takes F} → AreLaws takes → {r : Setup} {tasks : List Task} {a b c d : List Effect → Scene} {x y z w : F}
    (slots asked : List ℕ) (event : TextEvent) (spans of_spans : List SpanCallback) → asked ≡ slots → of_spans ≡ spans
    → Led takes r tasks (to_ask slots event spans) a b x y → Led takes r (map (λ slot. tell_after slot event) asked) [] b c y z
    → Led takes r (map tell_one of_spans) [] c d z w → Led takes r tasks [] a d x w
led_asked {takes = takes} laws {r = r} {b = b} {c = c} {d = d} {y = y} {z = z} {w = w} slots asked event spans of_spans same same_spans led after last =
    led_on laws led (led_then laws (subst (λ (ks : List ℕ). Led takes r (map (λ slot. tell_after slot event) ks) [] b c y z) same after)
    (subst (λ (cs : List SpanCallback). Led takes r (map tell_one cs) [] c d z w) same_spans last))

-- an early end among those who are asked about the text, among those who are asked about spans
pub passed_asked : {F : Type 0} {takes : Takes F} {r : Setup} {tasks : List Task} {a b c : List Effect → Scene} {x y : F}
    (slots asked : List ℕ) (event : TextEvent) (spans : List SpanCallback) → asked ≡ slots
    → Led takes r tasks (to_ask slots event spans) a b x y → Passed r (map (λ slot. tell_after slot event) asked) b c → Passed r tasks a c
passed_asked {r = r} {b = b} {c = c} slots asked event spans same led after =
    passed_led led (passed_behind (map tell_one spans) (subst (λ (ks : List ℕ). Passed r (map (λ slot. tell_after slot event) ks) b c) same after))

pub passed_of_spans : {F : Type 0} {takes : Takes F} {r : Setup} {tasks : List Task} {a b c d : List Effect → Scene} {x y z w : F}
    (slots asked : List ℕ) (event : TextEvent) (spans of_spans : List SpanCallback) → asked ≡ slots → of_spans ≡ spans
    → Led takes r tasks (to_ask slots event spans) a b x y → Led takes r (map (λ slot. tell_after slot event) asked) [] b c z w
    → Passed r (map tell_one of_spans) c d → Passed r tasks a d
passed_of_spans {takes = takes} {r = r} {b = b} {c = c} {d = d} {z = z} {w = w} slots asked event spans of_spans same same_spans led after last =
    passed_led led (passed_led_then (subst (λ (ks : List ℕ). Led takes r (map (λ slot. tell_after slot event) ks) [] b c z w) same after)
    (subst (λ (cs : List SpanCallback). Passed r (map tell_one cs) c d) same_spans last))

-- an edit that isn't done sets off nothing
pub led_undone : {F : Type 0} {takes : Takes F} → AreLaws takes → (r : Setup) (state : State) (depth : ℕ) (asked : Step) (verdict : Verdict)
    (a : List Effect → Scene) (x : F) → (verdict ≡ Done → ⊥) → Led takes r (on_done verdict (events state depth asked) []) [] a a x x
led_undone {takes = takes} laws r state depth asked verdict a x other =
    subst (λ (ts : List Task). Led takes r ts [] a a x x) (sym (nothing_unless_done verdict (events state depth asked) [] other)) (led_none laws r [] a x)

-- ---- an edit that is judged

-- what a judged edit sets off is what the machine says
sets_off_found : (r : Setup) (depth : ℕ) (asked found : Step) (state : State) (begun : ℕ) (verdict : Verdict) → is_barred r.depth depth begun ≡ false
    → found ≡ as_brought r asked state → verdict ≡ judged state (length r.slots) found
    → on_done verdict (events state depth found) [] ≡ sets_off r depth asked state begun
sets_off_found r depth asked found state begun verdict let_in is judges =
    ap (λ (v : Verdict). on_done v (events state depth found) []) judges
    ∙ (ap (λ (it : Step). on_done (judged state (length r.slots) it) (events state depth it) []) is
    ∙ ap (λ (v : Verdict). on_done v (events state depth (as_brought r asked state)) [])
    (sym (judged-let_in state (length r.slots) r.depth depth begun (as_brought r asked state) let_in)))

-- an item's edit
tells_item : (r : Setup) (it : Item) (asked found : Step) (verdict : Verdict) (state : State) (minds : List Mind) (log new : List LogEntry) (begun : ℕ)
    → asked ≡ resolved state it → new ≡ log ++ edit_entry r 0 asked state begun ∷ [] → is_barred r.depth 0 begun ≡ false → found ≡ as_brought r asked state
    → verdict ≡ judged state (length r.slots) found
    → Tells r (run_item it ∷ []) (on_done verdict (events state 0 found) []) (stands state minds log begun) (stands state minds new begun)
tells_item r it asked found verdict state minds log new begun asks logs let_in is judges =
    subst (λ (ts : List Task). Tells r (run_item it ∷ []) ts (stands state minds log begun) (stands state minds new begun))
    (sym (sets_off_found r 0 asked found state begun verdict let_in is judges))
    (subst (λ (es : List LogEntry). Tells r (run_item it ∷ []) (sets_off r 0 asked state begun) (stands state minds log begun) (stands state minds es begun))
    (sym logs)
    (subst (λ (one : Step). Tells r (run_item it ∷ []) (sets_off r 0 one state begun) (stands state minds log begun)
    (stands state minds (log ++ edit_entry r 0 one state begun ∷ []) begun)) (sym asks)
    (record { run = λ effects. leads_first (λ rest. refl) })))

pub led_item : {F : Type 0} {takes : Takes F} {b : List Effect → Scene} {x y : F} (r : Setup) (it : Item) (asked found : Step) (verdict : Verdict)
    (state : State) (minds : List Mind) (log new : List LogEntry) (begun : ℕ) → asked ≡ resolved state it → new ≡ log ++ edit_entry r 0 asked state begun ∷ []
    → is_barred r.depth 0 begun ≡ false → found ≡ as_brought r asked state → verdict ≡ judged state (length r.slots) found
    → Led takes r (on_done verdict (events state 0 found) []) [] (stands state minds new begun) b x y
    → Led takes r (run_item it ∷ []) [] (stands state minds log begun) b x y
led_item r it asked found verdict state minds log new begun asks logs let_in is judges led =
    told_on (tells_item r it asked found verdict state minds log new begun asks logs let_in is judges) led

pub passed_item : {b : List Effect → Scene} (r : Setup) (it : Item) (asked found : Step) (verdict : Verdict) (state : State) (minds : List Mind)
    (log new : List LogEntry) (begun : ℕ) → asked ≡ resolved state it → new ≡ log ++ edit_entry r 0 asked state begun ∷ [] → is_barred r.depth 0 begun ≡ false
    → found ≡ as_brought r asked state → verdict ≡ judged state (length r.slots) found
    → Passed r (on_done verdict (events state 0 found) []) (stands state minds new begun) b → Passed r (run_item it ∷ []) (stands state minds log begun) b
passed_item r it asked found verdict state minds log new begun asks logs let_in is judges passed =
    passed_told (tells_item r it asked found verdict state minds log new begun asks logs let_in is judges) passed

-- the first edit of an answer that is barred
tells_barred : (r : Setup) (first : Edit) (others : List Edit) (depth : ℕ) (state : State) (minds : List Mind) (log : List LogEntry) (begun : ℕ)
    → is_barred r.depth depth begun ≡ true
    → Tells r (do_rest first others depth ∷ []) [] (stands state minds log begun)
    (stands state minds (log ++ edit_entry r depth (resolved_edit first) state begun ∷ []) begun)
tells_barred r first others depth state minds log begun barred = record {
  run = λ effects. leads_first (λ rest.
      ap (λ b. cond b (at (edit_logged r depth (resolved_edit first) (stands state minds log begun effects)) rest)
      (answer_begun r (resolved_edit first) others depth (stands state minds log begun effects) rest)) barred);
}

pub led_barred : {F : Type 0} {takes : Takes F} → AreLaws takes → (r : Setup) (first : Edit) (others : List Edit) (depth : ℕ) (asked : Step)
    (state : State) (minds : List Mind) (log new : List LogEntry) (begun : ℕ) (x : F) → asked ≡ resolved_edit first
    → new ≡ log ++ edit_entry r depth asked state begun ∷ [] → is_barred r.depth depth begun ≡ true
    → Led takes r (do_rest first others depth ∷ []) [] (stands state minds log begun) (stands state minds new begun) x x
led_barred {takes = takes} laws r first others depth asked state minds log new begun x asks logs barred =
    subst (λ (es : List LogEntry). Led takes r (do_rest first others depth ∷ []) [] (stands state minds log begun) (stands state minds es begun) x x)
    (sym (logs ∙ ap (λ (one : Step). log ++ edit_entry r depth one state begun ∷ []) asks))
    (told_on (tells_barred r first others depth state minds log begun barred) (led_none laws r [] _ x))

-- and one that is not
tells_begun : (r : Setup) (first : Edit) (others : List Edit) (depth : ℕ) (state : State) (minds : List Mind) (log : List LogEntry) (begun : ℕ)
    → is_barred r.depth depth begun ≡ false
    → Tells r (do_rest first others depth ∷ []) (sets_off r depth (resolved_edit first) state begun ++ rest_of others depth) (stands state minds log begun)
    (stands state minds (log ++ edit_entry r depth (resolved_edit first) state begun ∷ []) (begun + 1))
tells_begun r first others depth state minds log begun let_in = record {
  run = λ effects. leads_first (λ rest.
      ap (λ b. cond b (at (edit_logged r depth (resolved_edit first) (stands state minds log begun effects)) rest)
      (answer_begun r (resolved_edit first) others depth (stands state minds log begun effects) rest)) let_in
      ∙ ap (λ (ts : List Task). at (stands state minds (log ++ edit_entry r depth (resolved_edit first) state begun ∷ []) (begun + 1) effects) ts)
      (sym (append_assoc (sets_off r depth (resolved_edit first) state begun) (rest_of others depth) rest)));
}

tells_judged : (r : Setup) (first : Edit) (others : List Edit) (depth : ℕ) (asked found : Step) (verdict : Verdict) (state : State) (minds : List Mind)
    (log new : List LogEntry) (begun : ℕ) → asked ≡ resolved_edit first → new ≡ log ++ edit_entry r depth asked state begun ∷ []
    → is_barred r.depth depth begun ≡ false
    → found ≡ as_brought r asked state → verdict ≡ judged state (length r.slots) found
    → Tells r (do_rest first others depth ∷ []) (on_done verdict (events state depth found) [] ++ rest_of others depth) (stands state minds log begun)
    (stands state minds new (begun + 1))
tells_judged r first others depth asked found verdict state minds log new begun asks logs let_in is judges =
    subst (λ (ts : List Task). Tells r (do_rest first others depth ∷ []) (ts ++ rest_of others depth) (stands state minds log begun)
    (stands state minds new (begun + 1)))
    (sym (sets_off_found r depth asked found state begun verdict let_in is judges))
    (subst (λ (es : List LogEntry). Tells r (do_rest first others depth ∷ []) (sets_off r depth asked state begun ++ rest_of others depth)
    (stands state minds log begun) (stands state minds es (begun + 1))) (sym logs)
    (subst (λ (one : Step). Tells r (do_rest first others depth ∷ []) (sets_off r depth one state begun ++ rest_of others depth) (stands state minds log begun)
    (stands state minds (log ++ edit_entry r depth one state begun ∷ []) (begun + 1))) (sym asks)
    (tells_begun r first others depth state minds log begun let_in)))

pub led_begun : {F : Type 0} {takes : Takes F} {b : List Effect → Scene} {x y : F} (r : Setup) (first : Edit) (others : List Edit) (depth : ℕ)
    (asked found : Step) (verdict : Verdict) (state : State) (minds : List Mind) (log new : List LogEntry) (begun : ℕ) → asked ≡ resolved_edit first
    → new ≡ log ++ edit_entry r depth asked state begun ∷ [] → is_barred r.depth depth begun ≡ false → found ≡ as_brought r asked state
    → verdict ≡ judged state (length r.slots) found
    → Led takes r (on_done verdict (events state depth found) []) [] (stands state minds new (begun + 1)) b x y
    → Led takes r (do_rest first others depth ∷ []) (rest_of others depth) (stands state minds log begun) b x y
led_begun r first others depth asked found verdict state minds log new begun asks logs let_in is judges led =
    told_on (tells_judged r first others depth asked found verdict state minds log new begun asks logs let_in is judges) (led_behind (rest_of others depth) led)

pub passed_begun : {b : List Effect → Scene} (r : Setup) (first : Edit) (others : List Edit) (depth : ℕ) (asked found : Step) (verdict : Verdict)
    (state : State)
    (minds : List Mind) (log new : List LogEntry) (begun : ℕ) → asked ≡ resolved_edit first → new ≡ log ++ edit_entry r depth asked state begun ∷ []
    → is_barred r.depth depth begun ≡ false → found ≡ as_brought r asked state → verdict ≡ judged state (length r.slots) found
    → Passed r (on_done verdict (events state depth found) []) (stands state minds new (begun + 1)) b
    → Passed r (do_rest first others depth ∷ []) (stands state minds log begun) b
passed_begun r first others depth asked found verdict state minds log new begun asks logs let_in is judges passed =
    passed_told (tells_judged r first others depth asked found verdict state minds log new begun asks logs let_in is judges)
    (passed_behind (rest_of others depth) passed)

-- whether something is left
pub led_stop : {F : Type 0} {takes : Takes F} {r : Setup} {tasks : List Task} {a b : List Effect → Scene} {x y : F} (left : List Task) (more : Bool)
    → more ≡ false → Led takes r tasks (cond more left []) a b x y → Led takes r tasks [] a b x y
led_stop {takes = takes} {r = r} {tasks = tasks} {a = a} {b = b} {x = x} {y = y} left more is led =
    subst (λ (m : Bool). Led takes r tasks (cond m left []) a b x y) is led

pub led_go_on : {F : Type 0} {takes : Takes F} {r : Setup} {tasks : List Task} {a b : List Effect → Scene} {x y : F} (left : List Task) (more : Bool)
    → more ≡ true → Led takes r tasks (cond more left []) a b x y → Led takes r tasks left a b x y
led_go_on {takes = takes} {r = r} {tasks = tasks} {a = a} {b = b} {x = x} {y = y} left more is led =
    subst (λ (m : Bool). Led takes r tasks (cond m left []) a b x y) is led

-- ---- the edits of an answer

-- what is left of them from a place on
rest_at : (edits : List Edit) (i : ℕ) (edit : Edit) (depth : ℕ) → i < length edits → edit ≡ get_or edits i edit
    → rest_of (drop i edits) depth ≡ do_rest edit (drop (i + 1) edits) depth ∷ []
rest_at edits i edit depth within is =
    at_drop_more (λ (left : List Edit). rest_of left depth) edits i edit within ∙ ap (λ (one : Edit). do_rest one (drop (i + 1) edits) depth ∷ []) (sym is)

-- one of them comes to an early end
pub passed_rest : {F : Type 0} {takes : Takes F} {r : Setup} {a b c : List Effect → Scene} {x y : F} (edits all : List Edit) (i : ℕ) (edit : Edit)
    (depth : ℕ) → edits ≡ all → i < length edits → edit ≡ get_or edits i edit → Led takes r (rest_of edits depth) (rest_of (drop i edits) depth) a b x y
    → ((others : List Edit) → Passed r (do_rest edit others depth ∷ []) b c) → Passed r (rest_of all depth) a c
passed_rest {r = r} {a = a} {b = b} {c = c} edits all i edit depth same within is led next =
    subst (λ (es : List Edit). Passed r (rest_of es depth) a c) same
    (passed_led led (subst (λ (ts : List Task). Passed r ts b c) (sym (rest_at edits i edit depth within is)) (next (drop (i + 1) edits))))

-- one of them is done, and some may be left or not
pub led_rest : {F : Type 0} {takes : Takes F} → AreLaws takes → {r : Setup} {a b c : List Effect → Scene} {x y z : F} (edits : List Edit) (i : ℕ)
    (edit : Edit) (depth : ℕ) (left : List Task) → i < length edits → edit ≡ get_or edits i edit
    → Led takes r (rest_of edits depth) (rest_of (drop i edits) depth) a b x y → Led takes r (do_rest edit (drop (i + 1) edits) depth ∷ []) left b c y z
    → Led takes r (rest_of edits depth) left a c x z
led_rest {takes = takes} laws {r = r} {b = b} {c = c} {y = y} {z = z} edits i edit depth left within is led next =
    led_on laws led (subst (λ (ts : List Task). Led takes r ts left b c y z) (sym (rest_at edits i edit depth within is)) next)

pub led_from : {F : Type 0} {takes : Takes F} {r : Setup} {left : List Task} {a b : List Effect → Scene} {x y : F} (edits all : List Edit) (depth : ℕ)
    → edits ≡ all → Led takes r (rest_of edits depth) left a b x y → Led takes r (rest_of all depth) left a b x y
led_from {takes = takes} {r = r} {left = left} {a = a} {b = b} {x = x} {y = y} edits all depth same led =
    subst (λ (es : List Edit). Led takes r (rest_of es depth) left a b x y) same led

-- ---- the run of an item

abbrev pub runs_led : {F : Type 0} {takes : Takes F} {r : Setup} {it : Item} {a b : List Effect → Scene} {x y : F × Effect}
    → Led (TakesLast takes) r (run_item it ∷ []) [] a b x y → Runs takes r it a b x.0 y.0
runs_led led = record { effects = led.effects; taken = led.taken.0; ends = (led.run []).run [] }

pub comes_passed : {r : Setup} {it : Item} {a b : List Effect → Scene} → Passed r (run_item it ∷ []) a b → ComesThrough r it a b
comes_passed passed = record { effects = passed.effects; agenda = ((passed.run []).run []).0; reaches = ((passed.run []).run []).1 }
