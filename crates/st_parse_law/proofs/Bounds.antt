-- A count behind an index.
use Rattle.std.proofs.Common.{◌≡◌, ℕ, List, [], ◌∷◌, ◌++◌, map, codes, Bool, true, false, refl, sym, ap, ◌∙◌, subst, append_assoc}
use Rattle.st_num.specs.declared.mark.Mark.TheVariants.{OpenParen, CloseParen, Less}
use Rattle.st_num.specs.declared.token.Token.{Token}
use Rattle.st_num.specs.declared.token.TokenKind.TheVariants as kind
use Rattle.st_grammar.specs.declared.sort.Leaf.TheVariants.{Low as low}
use Rattle.st_grammar.specs.declared.sort.Bracket.TheVariants.{Round as round}
use Rattle.st_grammar.specs.declared.sort.Closing.TheVariants.{ByRound as by_round}
use Rattle.st_grammar.specs.Terminals.{leaf, sign, opening, closing}
use Rattle.st_grammar.specs.Trees.{bracket, none, more, below, text}
use Rattle.st_el.specs.declared.expression.Exp.{Exp}
use Rattle.st_el.specs.declared.expression.Count.{roll-Count}
use Rattle.st_el.specs.declared.expression.Count.TheOpen.{Below}
use Rattle.st_el.specs.declared.expression.Count.TheVariants as count
use Rattle.st_el.specs.Contexts.{count as count_place}
use Rattle.st_el.specs.SourceText.{printed}
use Rattle.st_el.specs.Plain.{plain_exp, plain_count}
use Rattle.st_parse_builder.specs.Names.{name_of}
use Rattle.st_parse_builder.specs.Meaning.{meaning}
use Rattle.st_parse_law.specs.Written.{Piece, space, token, bytes_of, shape, shapes_behind, AreApart}
use Rattle.st_parse_law.proofs.Cuts.{touch, touch-append, bytes-append, parted, cut, single, one_terminal, terminals_of_both}
use Rattle.st_parse_law.proofs.Ends.{Clear, Front, front_more, first_round, first_ends, by_round as round_closes, closer_clear, closer_last, last_ends}
use Rattle.st_parse_law.proofs.Plains.{mark-of, plain-count}
use Rattle.st_parse_law.proofs.Wraps.{signed}
use Rattle.st_parse_law.proofs.Leaves.{a_low, IsWritten, leaf_word}
use Rattle.st_parse_law.proofs.Counts.{BoundPart, CountRead, CountPart}

below_text : (i t : List ℕ) → 40 ∷ (i ++ 32 ∷ 60 ∷ 32 ∷ (t ++ 41 ∷ [])) ≡ codes "(" ++ i ++ codes " < " ++ t ++ codes ")"
below_text i t = ap (λ w. 40 ∷ w) (sym (append_assoc (i ++ codes " < ") t (41 ∷ []) ∙ append_assoc i (codes " < ") (t ++ 41 ∷ [])))

below_plain : (n m : List ℕ) (e f : Exp) → n ≡ m → plain_exp e ≡ plain_exp f → plain_count (count.Below n e) ≡ plain_count (count.Below m f)
below_plain n m e f s h =
    plain-count (count.Below n e) (Below n e) (count.outs-Below n e) ∙ ap (λ k. roll-Count (Below k (plain_exp e))) s ∙ ap (λ p. roll-Count (Below m p)) h
    ∙ sym (plain-count (count.Below m f) (Below m f) (count.outs-Below m f))

module _ (names : List (List ℕ)) (i : List ℕ) (e : Exp) (w : IsWritten (kind.Low i)) (p : BoundPart names e) where
  abbrev word : Piece
  word = token (kind.Low i) i

  abbrev below_pieces : List Piece
  below_pieces = signed OpenParen ∷ word ∷ space ∷ signed Less ∷ space ∷ (p.pieces ++ signed CloseParen ∷ [])

  below_apart : (behind : List Piece) → Clear true (bytes_of behind) → AreApart behind → AreApart (below_pieces ++ behind)
  below_apart behind k a =
      let o = leaf_word names low (kind.Low i) (a_low i) w in
      let end : AreApart (signed CloseParen ∷ behind) = (refl, tt, last_ends CloseParen true (bytes_of behind) (closer_last CloseParen round_closes) k, a) in
      let rest : AreApart (p.pieces ++ signed CloseParen ∷ behind) = p.apart (signed CloseParen ∷ behind) (closer_clear CloseParen true (bytes_of behind) round_closes) end in
      let opens : Front true (bytes_of (word ∷ space ∷ signed Less ∷ space ∷ (p.pieces ++ signed CloseParen ∷ behind))) =
      front_more true i (bytes_of (space ∷ signed Less ∷ space ∷ (p.pieces ++ signed CloseParen ∷ behind))) (o.front true) in
      subst (λ w. AreApart (signed OpenParen ∷ word ∷ space ∷ signed Less ∷ space ∷ w)) (sym (append_assoc p.pieces (signed CloseParen ∷ []) behind)) (
        refl,
        tt,
        first_ends OpenParen true (bytes_of (word ∷ space ∷ signed Less ∷ space ∷ (p.pieces ++ signed CloseParen ∷ behind))) (first_round true) opens,
        (o.spelled, tt, refl, (refl, tt, refl, rest)),
      )

  below_read : (b : Bool) (xs : List Token) → map shape xs ≡ shapes_behind b below_pieces → CountRead names (count.Below i e) xs
  below_read b xs s =
      let one = cut xs ((kind.Sign OpenParen, b) ∷ []) ((kind.Low i, true) ∷ (kind.Sign Less, false) ∷ shapes_behind false (p.pieces ++ signed CloseParen ∷ [])) s in
      let two = cut one.behind ((kind.Low i, true) ∷ []) ((kind.Sign Less, false) ∷ shapes_behind false (p.pieces ++ signed CloseParen ∷ [])) one.backs in
      let three = cut two.behind ((kind.Sign Less, false) ∷ []) (shapes_behind false (p.pieces ++ signed CloseParen ∷ [])) two.backs in
      let four = parted false p.pieces (signed CloseParen ∷ []) three.behind three.backs in
      let o = single one.ahead (kind.Sign OpenParen) b one.fronts in
      let n = single two.ahead (kind.Low i) true two.fronts in
      let x = single three.ahead (kind.Sign Less) false three.fronts in
      let r = p.reads false four.ahead four.fronts in
      let y = single four.behind (kind.Sign CloseParen) (touch false p.pieces) four.backs in
      record {
        tree = bracket (below o.only n.only Less x.only) (more none [] r.tree) y.only;
        spelled = terminals_of_both names xs one.ahead one.behind (opening round o.only ∷ []) (leaf low n.only ∷ sign Less x.only ∷ (text r.tree ++ closing by_round y.only ∷ [])) one.whole
            (one_terminal names one.ahead (kind.Sign OpenParen) b o)
            (terminals_of_both names one.behind two.ahead two.behind (leaf low n.only ∷ []) (sign Less x.only ∷ (text r.tree ++ closing by_round y.only ∷ [])) two.whole
            (one_terminal names two.ahead (kind.Low i) true n)
            (terminals_of_both names two.behind three.ahead three.behind (sign Less x.only ∷ []) (text r.tree ++ closing by_round y.only ∷ []) three.whole
            (one_terminal names three.ahead (kind.Sign Less) false x)
            (terminals_of_both names three.behind four.ahead four.behind (text r.tree) (closing by_round y.only ∷ []) four.whole r.spelled
            (one_terminal names four.behind (kind.Sign CloseParen) (touch false p.pieces) y))));
        fits = (refl, (refl, refl), (tt, refl, r.fits, r.level, tt), tt);
        plain = below_plain (name_of n.only.kind) i (meaning r.tree) e (ap name_of n.kind) r.plain;
      }

  pub below_count : CountPart names (count.Below i e)
  below_count = record {
    bytes = codes "(" ++ i ++ codes " < " ++ (printed e).at count_place ++ codes ")";
    marked = mark-of (count.Below i e) (Below i e) (count.outs-Below i e);
    pieces = below_pieces;
    same = ap (λ w. 40 ∷ (i ++ 32 ∷ 60 ∷ 32 ∷ w)) (bytes-append p.pieces (signed CloseParen ∷ []) ∙ ap (λ w. w ++ 41 ∷ []) p.same) ∙ below_text i ((printed e).at count_place);
    ends = λ b. touch-append false p.pieces (signed CloseParen ∷ []);
    front = record { first = 40; rest = _; is = refl; no_semicolon = refl; no_minus = λ _. refl };
    apart = below_apart;
    reads = below_read;
  }
