-- Not part of the meaning: a form's layout and its limits as the code has them.
use Rattle.lay.specs.Slots.{span}
use Rattle.lay.specs.Layout.{Layout, count, offset, slots_of}
use Rattle.lay.specs.Reading.{place_of}
use Rattle.model.specs.Limits.{Limits}
use Rattle.model.specs.Items as item
use Rattle.model.specs.Items.{subframe_part, parameter_part, sample_part, component_part}
use Rattle.stored.specs.declared.forms.HeaderShape.{HeaderShape}
use Rattle.stored.specs.declared.forms.SubframeShape.{SubframeShape}
use Rattle.stored.specs.declared.forms.ParameterShape.{ParameterShape}
use Rattle.stored.specs.declared.forms.SampleShape.{SampleShape}
use Rattle.stored.specs.declared.forms.ComponentShape.{ComponentShape}
use Rattle.stored.specs.declared.forms.Bounds.{Bounds}

abbrev pub header_shape : Layout → HeaderShape
header_shape L =
    record {
      size = span L.header;
      total = place_of L.header item.total;
      flags = place_of L.header item.flags;
      zeros = place_of L.header item.zeros;
      text = place_of L.header item.text;
      subframes = place_of L.header (count subframe_part);
      subframe = place_of L.header (offset subframe_part);
      parameters = place_of L.header (count parameter_part);
      parameter = place_of L.header (offset parameter_part);
      samples = place_of L.header (count sample_part);
      sample = place_of L.header (offset sample_part);
      components = place_of L.header (count component_part);
      component = place_of L.header (offset component_part);
    }

abbrev pub subframe_shape : Layout → SubframeShape
subframe_shape L =
    record {
      size = span (slots_of L subframe_part);
      bits = place_of (slots_of L subframe_part) item.bits;
      words = place_of (slots_of L subframe_part) item.words;
      leading = place_of (slots_of L subframe_part) item.leading;
      trailing = place_of (slots_of L subframe_part) item.trailing;
      numerator = place_of (slots_of L subframe_part) item.numerator;
      denominator = place_of (slots_of L subframe_part) item.denominator;
    }

abbrev pub parameter_shape : Layout → ParameterShape
parameter_shape L =
    record {
      size = span (slots_of L parameter_part);
      name = place_of (slots_of L parameter_part) item.name_length;
      mnemonic = place_of (slots_of L parameter_part) item.mnemonic_length;
      identification = place_of (slots_of L parameter_part) item.identification_length;
      flags = place_of (slots_of L parameter_part) item.parameter_flags;
      start = place_of (slots_of L parameter_part) item.text_start;
      first = place_of (slots_of L parameter_part) item.first_sample;
      count = place_of (slots_of L parameter_part) item.sample_count;
      value = place_of (slots_of L parameter_part) item.value;
    }

abbrev pub sample_shape : Layout → SampleShape
sample_shape L =
    record {
      size = span (slots_of L sample_part);
      time = place_of (slots_of L sample_part) item.time;
      first = place_of (slots_of L sample_part) item.first_component;
      count = place_of (slots_of L sample_part) item.component_count;
    }

abbrev pub component_shape : Layout → ComponentShape
component_shape L =
    record {
      size = span (slots_of L component_part);
      subframe = place_of (slots_of L component_part) item.home;
      word = place_of (slots_of L component_part) item.word;
      low = place_of (slots_of L component_part) item.low;
      high = place_of (slots_of L component_part) item.high;
      overlap = place_of (slots_of L component_part) item.overlap;
      zero = place_of (slots_of L component_part) item.zero_byte;
    }

abbrev pub bounds_of : Limits → Bounds
bounds_of m =
    record {
      subframes = m.subframes;
      bits = m.bits;
      words = m.words;
      margin = m.margin;
      blank = m.blank;
      parameters = m.parameters;
      samples_each = m.samples_each;
      samples = m.samples;
      components_each = m.components_each;
      components = m.components;
      overlap = m.overlap;
      width = m.width;
      text = m.text;
      time = m.time;
      denominator = m.denominator;
      seconds = m.seconds;
      value = m.value;
    }

-- and back
abbrev pub limits_by : Bounds → Limits
limits_by m =
    record {
      subframes = m.subframes;
      bits = m.bits;
      words = m.words;
      margin = m.margin;
      blank = m.blank;
      parameters = m.parameters;
      samples_each = m.samples_each;
      samples = m.samples;
      components_each = m.components_each;
      components = m.components;
      overlap = m.overlap;
      width = m.width;
      text = m.text;
      time = m.time;
      denominator = m.denominator;
      seconds = m.seconds;
      value = m.value;
    }
