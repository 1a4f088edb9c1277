use Rattle.std.proofs.lemmas.Bool.Decides.{not_from_Decides}
use Rattle.zone_meaning.proofs.AddLemmas.{begun_new, begun_table, begun_added, found_data, set_new, set_table, set_added}
use Rattle.zone_meaning.proofs.zone_table.ZoneTable.insert.Goals as goal

pub invariant_of-self : goal.invariant_of-self
invariant_of-self c =
    let f = c.self.inside in
    let none = rw c.as_slice.ensures.value at c.in-None.ensures.none in
    begun_table f.apex c.args.owner f.groups.items c.begin.new.groups.items c.args.self.now c.self.view_is c.self.invariant c.args.rtype c.args.octets none c.begin.result c.begin.ensures.ok c.begin.ensures.refused c.requires.under c.requires.plain

pub returns-in-None-clause-there : goal.returns-in-None-clause-there
returns-in-None-clause-there c =
    let f = c.self.inside in
    let none = rw c.as_slice.ensures.value at c.in-None.ensures.none in
    λ has. absurd (begun_new f.apex c.args.owner f.groups.items c.begin.new.groups.items c.args.self.now c.self.view_is c.self.invariant c.args.rtype c.args.octets none has)

pub returns-in-None-clause-added : goal.returns-in-None-clause-added
returns-in-None-clause-added c =
    let f = c.self.inside in
    let none = rw c.as_slice.ensures.value at c.in-None.ensures.none in
    begun_added f.apex c.args.owner f.groups.items c.begin.new.groups.items c.args.self.now c.self.view_is c.self.invariant c.args.rtype c.args.octets none c.begin.result c.begin.ensures.ok

pub returns-then-has_item-clause-added : goal.returns-then-has_item-clause-added
returns-then-has_item-clause-added c =
    let f = c.self.inside in
    let found = rw c.as_slice.ensures.value at c.in-Some.ensures.found in
    λ new. absurd (new (found_data f.apex c.args.owner f.groups.items f.groups.items c.args.self.now c.self.view_is c.self.invariant c.args.rtype c.args.octets c.in-Some.place c.index.result.now found.0 found.1 c.index.ensures (c.has_item.ensures.0 c.if-has_item.true)))

pub invariant_of-self-in-Some : goal.invariant_of-self-in-Some
invariant_of-self-in-Some c =
    let f = c.self.inside in
    let found = rw c.as_slice.ensures.value at c.in-Some.ensures.found in
    let lacks = not_from_Decides c.has_item.result c.has_item.ensures c.if-has_item.false in
    set_table f.apex c.args.owner f.groups.items c.add_item.new.groups.items c.args.self.now c.self.view_is c.self.invariant c.args.rtype c.args.octets c.in-Some.place c.index.result.now found.0 found.1 c.index.ensures lacks c.add_item.result c.add_item.ensures.ok c.add_item.ensures.refused c.requires.under c.requires.plain

pub returns-else-has_item-clause-there : goal.returns-else-has_item-clause-there
returns-else-has_item-clause-there c =
    let f = c.self.inside in
    let found = rw c.as_slice.ensures.value at c.in-Some.ensures.found in
    let lacks = not_from_Decides c.has_item.result c.has_item.ensures c.if-has_item.false in
    λ has. absurd (set_new f.apex c.args.owner f.groups.items c.add_item.new.groups.items c.args.self.now c.self.view_is c.self.invariant c.args.rtype c.args.octets c.in-Some.place c.index.result.now found.0 found.1 c.index.ensures lacks has)

pub returns-else-has_item-clause-added : goal.returns-else-has_item-clause-added
returns-else-has_item-clause-added c =
    let f = c.self.inside in
    let found = rw c.as_slice.ensures.value at c.in-Some.ensures.found in
    let lacks = not_from_Decides c.has_item.result c.has_item.ensures c.if-has_item.false in
    set_added f.apex c.args.owner f.groups.items c.add_item.new.groups.items c.args.self.now c.self.view_is c.self.invariant c.args.rtype c.args.octets c.in-Some.place c.index.result.now found.0 found.1 c.index.ensures lacks c.add_item.result c.add_item.ensures.ok
