use Rattle.std.proofs.Common.{◌∙◌, ◌++◌, List, map, Some, sym, ap}
use Rattle.std.specs.List.{filter_map}
use Rattle.dname.specs.Name.{Label}
use Rattle.dname.specs.NameData.{name_in}
use Rattle.forwarding.specs.declared.own_names.TheConstants.{OWN_NAMES}
use Rattle.forwarding.proofs.passed_names.PassedNames.own.Goals as goal

pub returns : goal.returns
returns c =
    let names = filter_map (λ wire. name_in wire.now) OWN_NAMES in
    ap (map Some) (sym (c.in_ok-pass_all.ensures ∙ ap (λ (l : List (List Label)). l ++ names) c.none-passed.ensures))
