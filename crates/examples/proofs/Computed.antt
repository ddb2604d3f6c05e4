-- T1 to T14 as one table and one statement, T3's listing, and the recorded cases. The definitions are opened and antt computes both
-- sides.
use mathlib.Core.Path.{◌≡◌, refl}
use mathlib.Core.List.{map}
use Rattle.grammar.specs.Answer as Answer
use Rattle.grammar.specs.Blocks as Blocks
use Rattle.grammar.specs.Bytes as Bytes
use Rattle.grammar.specs.Canonical as Canonical
use Rattle.grammar.specs.Climb as Climb
use Rattle.grammar.specs.Coded as Coded
use Rattle.grammar.specs.Declaration as Declaration
use Rattle.grammar.specs.Listing as Listing
use Rattle.grammar.specs.Nesting as Nesting
use Rattle.grammar.specs.Nodes as Nodes
use Rattle.grammar.specs.Operator as Operator
use Rattle.grammar.specs.Outcome as Outcome
use Rattle.grammar.specs.Scan as Scan
use Rattle.grammar.specs.Span as Span
use Rattle.grammar.specs.SpanTree as SpanTree
use Rattle.grammar.specs.Spelling as Spelling
use Rattle.grammar.specs.Token as Token
use Rattle.grammar.specs.Tree as Tree
use Rattle.examples.specs.Limits as Limits
use Rattle.examples.specs.Limits.{limits}
use Prim.Native.Nat.{◌*◌}
use Rattle.grammar.specs.Bytes.{bytes}
use Rattle.grammar.specs.Nodes.{words_per_node}
use Rattle.examples.specs.Table.{table, given, asked, t3_listing}
use Rattle.examples.specs.Cases.{cases}

-- The four statements below, computed under one list of opened definitions.
computed :
    (map given table ≡ map (λ e. asked e.expected) table)
    × (Listing.listing (5 * words_per_node) 9 (bytes "a + b * 3") ≡ t3_listing)
    × (map (λ c. Listing.listing 1000 2000 c.text) cases ≡ map (λ c. c.listing) cases)
    × (map Limits.given limits ≡ map Limits.asked limits)
unfolding Answer.tokens_of Answer.starts_of Answer.offset_of Answer.span_offset Answer.reading_tree Answer.read_spans Answer.read_tokens
    Answer.read_text
    Answer.rejection Answer.success Answer.over Answer.answered Answer.reading_words Answer.nodes_into Answer.read Answer.reading_text
    Answer.bytes_that Answer.text_into Answer.canonicalize Blocks.body_table Blocks.check_item Blocks.check_items
    Blocks.check_blocks Blocks.item_spans Blocks.all_item_spans Blocks.spans Blocks.first_without Blocks.treeless_opener
    Blocks.under_bracket Blocks.under_block Blocks.under_operator Blocks.hang_item Blocks.hang Blocks.hang_found Blocks.tree_in
    Blocks.tree_of Bytes.same Bytes.member Bytes.every Bytes.is_empty Canonical.without_zeros Canonical.or_zero Canonical.strip
    Canonical.strip_declaration Canonical.written_name Canonical.written_atom Canonical.fitted Canonical.canonical Canonical.spaced_pieces
    Canonical.join_pieces Canonical.join_tokens Canonical.canonical_text Climb.symbol_at Climb.first_role Climb.left_role Climb.gives_way Climb.pushed
    Climb.closed Climb.taking Climb.takes Climb.admits_prefix Climb.bears Climb.fits_left Climb.fits_below Climb.arrives Climb.arrived Climb.operand_step
    Climb.operator_step Climb.advance Climb.postfix_last Climb.finish Climb.ending Climb.climb_from Climb.unread Climb.search Climb.tree_found Climb.climb Coded.kind_of Coded.token_of
    Declaration.value_from Declaration.value Declaration.declare Declaration.declare_all
    Declaration.start_declarations Declaration.start_table Declaration.fixity_word Declaration.associativity_word
    Declaration.declaration_tokens Declaration.all_tokens Declaration.is_precedence Declaration.symbol_of Declaration.precedence_of
    Declaration.is_semicolon Declaration.fixity_named Declaration.associativity_named Declaration.closed Declaration.operator_part
    Declaration.precedence_part Declaration.associativity_for Declaration.associativity_part Declaration.first_word
    Declaration.declaration Declaration.operator_place Declaration.operator_of Declaration.is_reserved Declaration.checked_at
    Declaration.has_room Declaration.enter_with
    Declaration.declarations_of Declaration.declarations Listing.decimal_in Listing.decimal Listing.kind_names Listing.field
    Listing.node_lines Listing.refusal_line Listing.canonical_lines Listing.reading_lines Listing.listing_of Listing.listing
    Nesting.outermost Nesting.within Nesting.move Nesting.close_innermost Nesting.nesting Nodes.leaf_kind Nodes.written_offset
    Nodes.count Nodes.node_words Nodes.operator_words Nodes.words Operator.same_fixity Operator.same_associativity Operator.allowed
    Operator.role Operator.is_some Operator.has_role Operator.in_force Operator.replaced Operator.declare_role Operator.remove_roles
    Operator.one_precedence_test Operator.only Operator.absent_role Operator.beside_infix Operator.lawful_associativities
    Operator.lawful Operator.is_apart Operator.every_operator Operator.permitted Operator.listed Outcome.and_then Outcome.placed Scan.run Scan.keyword_or_symbol Scan.at_most
    Scan.characters_behind Scan.characters_at Scan.quoted_with Scan.quoted_name Scan.front_of Scan.front Scan.before Scan.scan Span.item_tokens Span.effect Span.own_item Span.is_in Span.before_in
    Span.after_in Span.item Span.items_from Span.items SpanTree.yield SpanTree.present SpanTree.fixity_by SpanTree.fixity
    SpanTree.role_of_fixity SpanTree.role_over SpanTree.root SpanTree.root_precedence SpanTree.is_left SpanTree.is_right
    SpanTree.right_root SpanTree.admits_equal SpanTree.admits SpanTree.admits_both SpanTree.is_operand_atom SpanTree.is_operand
    Spelling.continues Token.class Token.is_blank_byte Token.begins_word Token.in_word Token.in_sign Token.in_number Token.in_quotes
    Token.is_quote Token.doubled Token.undoubled_behind Token.undoubled Token.as_written Token.spelling Token.structure_number Token.is_structure Token.is_keyword Token.is_word Token.is_sign
    Token.is_number Token.is_symbol Tree.flat Tree.span_tree limits Limits.repeated Limits.declared Limits.long_names
computed = (refl, refl, refl, refl)

-- What both services answer and leave in the buffers is what document 01 says, for each of T1 to T14.
pub table_holds : map given table ≡ map (λ e. asked e.expected) table
table_holds = computed.0

-- T3's listing, as document 01 prints it, with the last field of document 02, §6; lent are the words of its five nodes and its nine bytes.
pub t3_listed : Listing.listing (5 * words_per_node) 9 (bytes "a + b * 3") ≡ t3_listing
t3_listed = computed.1

-- The listing of each recorded case.
pub cases_hold : map (λ c. Listing.listing 1000 2000 c.text) cases ≡ map (λ c. c.listing) cases
cases_hold = computed.2

-- The answers at each limit and one past it.
pub limits_hold : map Limits.given limits ≡ map Limits.asked limits
limits_hold = computed.3
