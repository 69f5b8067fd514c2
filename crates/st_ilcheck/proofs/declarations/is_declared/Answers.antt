use Rattle.std.proofs.Common.{refl}
use Rattle.st_il.specs.declared.definition.IlDef.TheVariants.{Syntax}
use Rattle.st_ilcheck.proofs.SyntaxLemmas.{read-there, place-within, place-there, place-names, place-declared, other-declared}
use Rattle.st_ilcheck.proofs.declarations.is_declared.Goals as goal

pub keeps_syntax-requires-clause-within : goal.keeps_syntax-requires-clause-within
keeps_syntax-requires-clause-within c =
    let there = read-there c.args.il.now.defs c.as_slice-defs.result.now c.args.at c.index-defs-at.result (Syntax c.in-Syntax.syntax) c.as_slice-defs.ensures c.requires.within c.index-defs-at.is c.in-Syntax.is in
    place-within c.args.il.now c.args.at c.in-Syntax.syntax there c.args.before.now c.requires.before c.len-number.result c.len-number.ensures c.args.bodies.now c.requires.bodies

pub keeps_syntax-requires-clause-there : goal.keeps_syntax-requires-clause-there
keeps_syntax-requires-clause-there c =
    let there = read-there c.args.il.now.defs c.as_slice-defs.result.now c.args.at c.index-defs-at.result (Syntax c.in-Syntax.syntax) c.as_slice-defs.ensures c.requires.within c.index-defs-at.is c.in-Syntax.is in
    place-there c.args.il.now c.args.at c.in-Syntax.syntax there c.args.before.now c.requires.before c.len-number.result c.len-number.ensures c.args.bodies.now c.requires.bodies

pub keeps_syntax-requires-clause-names : goal.keeps_syntax-requires-clause-names
keeps_syntax-requires-clause-names c =
    let there = read-there c.args.il.now.defs c.as_slice-defs.result.now c.args.at c.index-defs-at.result (Syntax c.in-Syntax.syntax) c.as_slice-defs.ensures c.requires.within c.index-defs-at.is c.in-Syntax.is in
    place-names c.args.il.now c.args.at c.in-Syntax.syntax there c.args.before.now c.requires.before c.len-number.result c.len-number.ensures c.args.bodies.now c.requires.bodies c.args.before.now.syntaxes refl

pub returns-in_ok-kept-in-Syntax : goal.returns-in_ok-kept-in-Syntax
returns-in_ok-kept-in-Syntax c =
    let there = read-there c.args.il.now.defs c.as_slice-defs.result.now c.args.at c.index-defs-at.result (Syntax c.in-Syntax.syntax) c.as_slice-defs.ensures c.requires.within c.index-defs-at.is c.in-Syntax.is in
    place-declared c.args.il.now c.args.at c.in-Syntax.syntax there c.args.before.now c.requires.before c.len-number.result c.len-number.ensures c.args.bodies.now c.requires.bodies c.in_ok-kept-in-Syntax.kept c.in_ok-kept-in-Syntax.ensures

pub returns-in_default : goal.returns-in_default
returns-in_default c =
    let there = read-there c.args.il.now.defs c.as_slice-defs.result.now c.args.at c.index-defs-at.result c.index-defs-at.result c.as_slice-defs.ensures c.requires.within c.index-defs-at.is refl in
    other-declared c.args.il.now c.args.at c.index-defs-at.result there c.args.before.now c.requires.before c.in_default.not-Syntax c.is_new.result c.is_new.ensures
