-- `put_decimal` ends: each call has a digit fewer.
use Rattle.text.proofs.page.Page.+put_decimal.Given as goal

abbrev pub decreases-put_decimal : goal.decreases-put_decimal
decreases-put_decimal l = l.number
