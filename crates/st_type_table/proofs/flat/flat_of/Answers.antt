use Rattle.std.proofs.Common.{refl, sym, ap, ◌∙◌}
use Rattle.st_il.specs.declared.ty.Ty.{out-Ty}
use Rattle.st_il.specs.declared.ty.Ty.TheOpen.{Ty-F}
use Rattle.st_il.specs.declared.ty.Ty.TheVariants as ty
use Rattle.st_type_table.proofs.FlatLemmas.{flat-found, flat-unplaced, flat-none}
use Rattle.st_type_table.proofs.flat.flat_of.Goals as goal

pub returns-in-Some : goal.returns-in-Some
returns-in-Some c = flat-found c.args.defs.now c.args.flats.now c.args.ty.now c.meaning_in.result.now c.in-Name.name c.in-Some.position c.flat_at.result c.requires.size c.requires.known
    c.meaning_in.ensures c.in-Name.is (sym c.in-Some.ensures) c.flat_at.ensures

pub returns-in-None : goal.returns-in-None
returns-in-None c = flat-unplaced c.args.defs.now c.args.ty.now c.meaning_in.result.now c.in-Name.name c.meaning_in.ensures c.in-Name.is (sym c.in-None.ensures)

pub returns-in-Bool : goal.returns-in-Bool
returns-in-Bool c = flat-none c.args.defs.now c.args.ty.now c.meaning_in.result.now Ty-F.Bool c.meaning_in.ensures (ap out-Ty c.in-Bool.is ∙ ty.outs-Bool) refl

pub returns-in-Nat : goal.returns-in-Nat
returns-in-Nat c = flat-none c.args.defs.now c.args.ty.now c.meaning_in.result.now Ty-F.Nat c.meaning_in.ensures (ap out-Ty c.in-Nat.is ∙ ty.outs-Nat) refl

pub returns-in-Int : goal.returns-in-Int
returns-in-Int c = flat-none c.args.defs.now c.args.ty.now c.meaning_in.result.now Ty-F.Int c.meaning_in.ensures (ap out-Ty c.in-Int.is ∙ ty.outs-Int) refl

pub returns-in-Text : goal.returns-in-Text
returns-in-Text c = flat-none c.args.defs.now c.args.ty.now c.meaning_in.result.now Ty-F.Text c.meaning_in.ensures (ap out-Ty c.in-Text.is ∙ ty.outs-Text) refl

pub returns-in-List : goal.returns-in-List
returns-in-List c = flat-none c.args.defs.now c.args.ty.now c.meaning_in.result.now (Ty-F.List c.in-List.field-0) c.meaning_in.ensures (ap out-Ty c.in-List.is ∙ ty.outs-List _) refl

pub returns-in-Opt : goal.returns-in-Opt
returns-in-Opt c = flat-none c.args.defs.now c.args.ty.now c.meaning_in.result.now (Ty-F.Opt c.in-Opt.field-0) c.meaning_in.ensures (ap out-Ty c.in-Opt.is ∙ ty.outs-Opt _) refl

pub returns-in-Tuple : goal.returns-in-Tuple
returns-in-Tuple c = flat-none c.args.defs.now c.args.ty.now c.meaning_in.result.now (Ty-F.Tuple c.in-Tuple.field-0) c.meaning_in.ensures (ap out-Ty c.in-Tuple.is ∙ ty.outs-Tuple _) refl
