use Rattle.std.proofs.Common.{sym, ◌∙◌}
use Rattle.st_order.specs.inner.Index.{names_in}
use Rattle.st_modes.proofs.ClauseParts.{m3_breach, m4_breach, m6_breach, m7_breach, no_breach, m3_is, m7_is, all_vars_made}
use Rattle.st_modes.proofs.clause_modes.clause_breach.Goals as goal

pub keeps_m4-requires : goal.keeps_m4-requires
keeps_m4-requires c =
    all_vars_made c.args.clause.now.args c.as_slice.result.now c.as_slice-names.result.now c.push_all_vars.new.names c.new-names.result c.as_slice-names.ensures c.in_ok-push_all_vars.ensures c.as_slice.ensures c.new-names.ensures

pub returns-then-not-m3 : goal.returns-then-not-m3
returns-then-not-m3 c =
    let il = c.args.directions.now.il.now in
    let clause = c.args.clause.now in
    let names = all_vars_made clause.args c.as_slice.result.now c.as_slice-names.result.now c.push_all_vars.new.names c.new-names.result c.as_slice-names.ensures c.in_ok-push_all_vars.ensures c.as_slice.ensures c.new-names.ensures in
    let m3 = m3_is il clause (names_in c.as_slice-names.result.now) c.as_slice-premises.result.now names c.as_slice-premises.ensures in
    m3_breach il clause (sym m3 ∙ sym c.in_ok-m3.ensures ∙ c.if-not-m3.true)

pub returns-then-not-m4 : goal.returns-then-not-m4
returns-then-not-m4 c =
    let il = c.args.directions.now.il.now in
    let clause = c.args.clause.now in
    let names = all_vars_made clause.args c.as_slice.result.now c.as_slice-names.result.now c.push_all_vars.new.names c.new-names.result c.as_slice-names.ensures c.in_ok-push_all_vars.ensures c.as_slice.ensures c.new-names.ensures in
    let m3 = m3_is il clause (names_in c.as_slice-names.result.now) c.as_slice-premises.result.now names c.as_slice-premises.ensures in
    m4_breach il clause (sym m3 ∙ sym c.in_ok-m3.ensures ∙ c.if-not-m3.false) (sym (c.in_ok-m4.ensures il) ∙ c.if-not-m4.true)

pub returns-then-not-m6 : goal.returns-then-not-m6
returns-then-not-m6 c =
    let il = c.args.directions.now.il.now in
    let clause = c.args.clause.now in
    let names = all_vars_made clause.args c.as_slice.result.now c.as_slice-names.result.now c.push_all_vars.new.names c.new-names.result c.as_slice-names.ensures c.in_ok-push_all_vars.ensures c.as_slice.ensures c.new-names.ensures in
    let m3 = m3_is il clause (names_in c.as_slice-names.result.now) c.as_slice-premises.result.now names c.as_slice-premises.ensures in
    m6_breach il clause (sym m3 ∙ sym c.in_ok-m3.ensures ∙ c.if-not-m3.false) (sym (c.in_ok-m4.ensures il) ∙ c.if-not-m4.false) (sym c.in_ok-m6.ensures ∙ c.if-not-m6.true)

pub returns-then-not-cite_nothing : goal.returns-then-not-cite_nothing
returns-then-not-cite_nothing c =
    let il = c.args.directions.now.il.now in
    let clause = c.args.clause.now in
    let names = all_vars_made clause.args c.as_slice.result.now c.as_slice-names.result.now c.push_all_vars.new.names c.new-names.result c.as_slice-names.ensures c.in_ok-push_all_vars.ensures c.as_slice.ensures c.new-names.ensures in
    let m3 = m3_is il clause (names_in c.as_slice-names.result.now) c.as_slice-premises.result.now names c.as_slice-premises.ensures in
    m7_breach il clause (sym m3 ∙ sym c.in_ok-m3.ensures ∙ c.if-not-m3.false) (sym (c.in_ok-m4.ensures il) ∙ c.if-not-m4.false) (sym c.in_ok-m6.ensures ∙ c.if-not-m6.false)
    (sym (m7_is il clause c.as_slice-premises.result.now c.as_slice-premises.ensures) ∙ sym c.cite_nothing.ensures ∙ c.if-not-cite_nothing.true)

pub returns : goal.returns
returns c =
    let il = c.args.directions.now.il.now in
    let clause = c.args.clause.now in
    let names = all_vars_made clause.args c.as_slice.result.now c.as_slice-names.result.now c.push_all_vars.new.names c.new-names.result c.as_slice-names.ensures c.in_ok-push_all_vars.ensures c.as_slice.ensures c.new-names.ensures in
    let m3 = m3_is il clause (names_in c.as_slice-names.result.now) c.as_slice-premises.result.now names c.as_slice-premises.ensures in
    no_breach il clause (sym m3 ∙ sym c.in_ok-m3.ensures ∙ c.if-not-m3.false) (sym (c.in_ok-m4.ensures il) ∙ c.if-not-m4.false) (sym c.in_ok-m6.ensures ∙ c.if-not-m6.false)
    (sym (m7_is il clause c.as_slice-premises.result.now c.as_slice-premises.ensures) ∙ sym c.cite_nothing.ensures ∙ c.if-not-cite_nothing.false)
