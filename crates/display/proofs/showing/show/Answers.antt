-- `show` meets its contract: a case a form.
use Rattle.std.proofs.Common.{ap, sym, ◌∙◌, ◌≡◌}
use Rattle.number.specs.declared.Number.{Number}
use Rattle.number.specs.declared.form.Form.{Form}
use Rattle.number.specs.Number.{form_of}
use Rattle.display.specs.declared.shown.Cell.TheVariants.{Value}
use Rattle.display.specs.Cell.{shown, number_shown}
use Rattle.display.proofs.showing.show.Goals as goal

by_form : (x : Number) {f g : Form} → f ≡ form_of x → f ≡ g → shown g x ≡ number_shown x
by_form x e h = sym (ap (λ (g : Form). shown g x) (sym e ∙ h))

pub returns-in-Malformed : goal.returns-in-Malformed
unfolding shown
returns-in-Malformed c = by_form _ c.form_of-form.ensures c.in-Malformed.is

pub returns-in-Odd : goal.returns-in-Odd
unfolding shown
returns-in-Odd c = by_form _ c.form_of-form.ensures c.in-Odd.is

pub returns-in-Full : goal.returns-in-Full
unfolding shown
returns-in-Full c = ap Value c.double.ensures ∙ by_form _ c.form_of-form.ensures c.in-Full.is

pub returns-in-Short : goal.returns-in-Short
unfolding shown
returns-in-Short c = ap Value c.double-in-Short.ensures ∙ by_form _ c.form_of-form.ensures c.in-Short.is
