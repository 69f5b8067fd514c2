mod NumberedTexts
mod BareIterations
mod SentenceParts
