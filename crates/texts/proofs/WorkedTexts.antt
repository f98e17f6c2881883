-- The worked texts, computed.
use Rattle.std.{proofs.Common.refl, specs.Fmt.digits}
use Rattle.formats.specs.Events.{event_of_name, format_named}
use Rattle.texts.specs.Fields.{cut, entered_of, move_of, moves_of, now_of, number_between, was_of}
use Rattle.texts.specs.{Names.is_clear_name, Reading.command_of, Table.rows}
use Rattle.texts.specs.WorkedTexts.{ReadsWorkedTexts}

pub worked_texts : ReadsWorkedTexts
unfolding
    command_of
    cut
    digits
    entered_of
    event_of_name
    format_named
    is_clear_name
    move_of
    moves_of
    now_of
    number_between
    rows
    was_of
worked_texts =
    record {
      registering = (refl, refl);
      opening = (refl, refl, refl);
      final_round = (refl, refl, refl);
      entering = (refl, refl, refl);
      scramble = (refl, refl, refl);
      time = (refl, refl, refl);
      solution = (refl, refl, refl);
      cubes = (refl, refl, refl);
      striking = (refl, refl, refl);
      advance = (refl, refl, refl);
      closing = (refl, refl, refl);
      edition = (refl, refl, refl);
      renaming = (refl, refl);
      setting = (refl, refl, refl);
      rescramble = (refl, refl, refl);
      withdrawing = (refl, refl, refl);
      reopening = (refl, refl, refl);
      card = (refl, refl, refl);
      card_again = (refl, refl, refl);
      card_of_moves = (refl, refl, refl);
      card_of_nothing = (refl, refl, refl);
      fixing = (refl, refl, refl);
      cancelling = (refl, refl, refl);
      edition_of_cards = (refl, refl, refl);
      remark = (refl, refl, refl);
      remark_of_card = (refl, refl, refl);
      other_word = refl;
      missing = refl;
      leading_zero = refl;
      two_spaces = refl;
      one_too_many = refl;
      first_of_two = refl;
      lower_case = refl;
      other_edition = refl;
      value_with_zero = refl;
      value_too_great = refl;
      six_values = refl;
      no_value = refl;
      one_more_stays = refl;
      none_stays = refl;
      six_attempts = refl;
      dash_among = refl;
      bad_fields = refl;
      bad_remark = refl;
      bad_remark_of_three = refl;
      remark_too_early = refl;
      remark_elsewhere = refl;
    }
