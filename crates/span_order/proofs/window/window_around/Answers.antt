-- A window that is widened is one of the same slots.
use Rattle.span_order.proofs.window.window_around.Goals as goal

pub returns-clause-is : goal.returns-clause-is
returns-clause-is c = c.widen_back.ensures.is _ _ (c.widen_front-window.ensures.is _ _ c.window_of-window.ensures)
