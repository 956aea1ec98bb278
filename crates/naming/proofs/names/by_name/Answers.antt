-- `by_name` meets its contract: `find` stops at the first row of that name.
use Rattle.std.proofs.Common.{rules, tests, bytes_eq, refl, ◌∙◌, ◌≡◌, ap}
use Rattle.std.specs.Slice.Iter.{iter_rest}
use Rattle.std.specs.Option.{option_map}
use Rattle.std.proofs.lemmas.Iterator.{YieldsList-from_slice}
use Rattle.std.proofs.lemmas.Iterator.Search.{find_from_yields_List}
use Rattle.naming.specs.Names.{by_name, rows_of}
use Rattle.naming.proofs.Laws.{found_by_name}
use Rattle.naming.proofs.names.by_name.Goals as goal

pub returns : goal.returns
returns g c =
    let s = c.args.text.now in
    let rows = iter_rest c.iter.result in
    let found = find_from_yields_List (λ r. bytes_eq r.0.now s) _ _ c.find.result c.find.ensures.ran (YieldsList-from_slice rows refl) (λ x b q k. search (rules, tests)) in
    let it : c.map.result ≡ option_map (λ r. r.1) (option_map (λ r. r.now) c.find.result) = search rules in
    it ∙ found_by_name s rows found ∙ ap (λ rs. by_name (rows_of rs) s) c.iter.ensures.rest
