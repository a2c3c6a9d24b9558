-- Both directions' words hold caches of one graph after calls: as they are opened, and again after each order.
-- Assumes nothing.
use mathlib.Core.Path.{◌≡◌, sym, ◌∙◌, subst}
use Rattle.std.specs.declared.option.Option.{Option}
use Rattle.std.specs.Prelude.{Ok, None, Some}
use mathlib.Core.List.{List}
use Prim.Native.Nat.{ℕ}
use Rattle.model.specs.Graph.{Graph, Direction, backward}
use Rattle.model.proofs.Replies.{answered-is}
use Rattle.cache.specs.Open.{Opening}
use Rattle.order_lines.specs.declared.orders.Form.{Form}
use Rattle.order_lines.specs.declared.orders.Form.TheVariants.{Forward, Backward}
use Rattle.order_lines.specs.declared.orders.Order.{Order}
use Rattle.order_lines.specs.Orders.{order_of}
use Rattle.order_run.specs.Run.{Ran, RanOn, RanBy, RanLine, Called, CalledBoth}
use Rattle.order_run.proofs.Right.{lines-are-right, opens-called}

pub called-both : (fs bs text : List ℕ) {fs' bs' : List ℕ} → Opening fs text 0 16 (Ok tt) fs' → Opening bs text 1 16 (Ok tt) bs' → CalledBoth fs' bs'
called-both fs bs text {fs'} {bs'} f b =
    let x = opens-called fs text 0 16 fs' f in
    let y = opens-called bs text 1 16 bs' b in
    let same : y.0 ≡ x.0 = answered-is y.0 x.0 (sym y.1.0 ∙ x.1.0) in
    record { graph = x.0; forward = x.1.1; backward = subst (λ (g : Graph). Called backward g 16 bs') same y.1.1 }

ran-called : {dir : Direction} {g : Graph} {t i r : ℕ} {ws ss gs out left out' : List ℕ} → Called dir g t ws → Ran ws i ss gs out r left out' → Called dir g t left
ran-called {dir} {g} {t} {i} {r} {ws} {ss} {gs} {out} {left} {out'} c h = (lines-are-right dir g t i ws ss gs out r left out' c h).1.1.next

-- the run direction's words are called on, the others stay
called-on : (f : Form) (fs bs : List ℕ) (i : ℕ) (o : Order) (out : List ℕ) (r : ℕ) (fs' bs' out' : List ℕ) → CalledBoth fs bs → RanOn f fs bs i o out r fs' bs' out'
    → CalledBoth fs' bs'
called-on Forward fs bs i o out r fs' bs' out' c h = record { graph = c.graph; forward = ran-called c.forward h.ran; backward = rw h.stays c.backward }
called-on Backward fs bs i o out r fs' bs' out' c h = record { graph = c.graph; forward = rw h.stays c.forward; backward = ran-called c.backward h.ran }

called-by : (o : Option Order) (fs bs : List ℕ) (i : ℕ) (out : List ℕ) (r : ℕ) (fs' bs' out' : List ℕ) → CalledBoth fs bs → RanBy o fs bs i out r fs' bs' out'
    → CalledBoth fs' bs'
called-by None fs bs i out r fs' bs' out' c h = record { graph = c.graph; forward = rw h.forward c.forward; backward = rw h.backward c.backward }
called-by (Some o) fs bs i out r fs' bs' out' c h = called-on o.form fs bs i o out r fs' bs' out' c h

pub called-after : (fs bs : List ℕ) (i : ℕ) (l out : List ℕ) (r : ℕ) (fs' bs' out' : List ℕ) → CalledBoth fs bs → RanLine fs bs i l out r fs' bs' out' → CalledBoth fs' bs'
called-after fs bs i l = called-by (order_of l) fs bs i
